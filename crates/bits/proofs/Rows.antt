-- The rows of a flat buffer: where row i is inside, what it holds, and that rows one after the other are found again.
-- Assumes nothing.
use mathlib.Core.Path.{◌≡◌, sym, ap, ap₂, ◌∙◌}
use mathlib.Core.List.{List, [], ◌∷◌, ◌++◌, flatten, append-nil, append_assoc}
use mathlib.Core.Logic.{⊎_elim}
use Prim.Native.Nat.{ℕ, zero, suc, ◌+◌, ◌-◌, ◌*◌, ◌/◌, ◌%◌, ◌≤◌, ◌<◌}
use native.Mathlib.Nat.{le-div_iff_mul-le, lt-div-mul-add, mul-le-mul_right, suc-mul, zero-mul}
use native.Mathlib.Numerals.{add-one}
use native.Mathlib.Omega.{arith}
use borrow.Author.Tests.{le-leb, lt-leb}
use borrow.Rule.Slice.PartMut.{mid_of, post_of, put_mid, mid_len}
use lib.ListN.{length, get_or, take, drop, length-append, length-take, length-drop, get_or-eq_default}
use lib.Seq.{get_or-drop, get_or-take, take_at, drop-append-add, length-take-le}
use Rattle.bits.specs.Bits.{tabulate, test_bit, bit_at}
use Rattle.bits.specs.Bytes.{row_of}
use Rattle.bits.proofs.Numbers.{lt-or-le}
use Rattle.bits.proofs.Tabulate.{length-tabulate, get_d_tabulate}

-- a row wholly inside is that part of the buffer
pub row_inside : (s : List ℕ) (len i : ℕ) → i * len + len ≤ length s → row_of s len i ≡ take len (drop (i * len) s)
unfolding row_of
row_inside s len i h = rw (le-leb (i * len + len) (length s) h)

-- one not wholly inside is the empty part
pub row-outside : (s : List ℕ) (len i : ℕ) → length s < i * len + len → row_of s len i ≡ []
unfolding row_of
row-outside s len i h = rw (lt-leb (i * len + len) (length s) h)

-- a row of no bytes is the empty part
pub row-empty : (s : List ℕ) (i : ℕ) → row_of s 0 i ≡ []
row-empty s i = ⊎_elim (λ h. row-outside s 0 i h) (λ h. row_inside s 0 i h) (lt-or-le (length s) (i * 0 + 0))

-- a row wholly inside has len bytes
pub row-length : (s : List ℕ) (len i : ℕ) → i * len + len ≤ length s → length (row_of s len i) ≡ len
row-length s len i h = rw (row_inside s len i h) (simp (length-take, length-drop) (omega arith))

-- byte k of a row wholly inside
pub row-get_or : (s : List ℕ) (len i k : ℕ) → i * len + len ≤ length s → k < len → get_or (row_of s len i) k 0 ≡ get_or s (i * len + k) 0
row-get_or s len i k h l = rw (row_inside s len i h, get_or-take, get_or-drop)

-- the bytes of a row of bytes are bytes
pub row_lt : (s : List ℕ) (len i : ℕ) → ((k : ℕ) → get_or s k 0 < 256) → (k : ℕ) → get_or (row_of s len i) k 0 < 256
row_lt s len i b k =
    ⊎_elim
    (λ h. rw (row-outside s len i h) (omega arith))
    (λ h. ⊎_elim
    (λ l. rw (row-get_or s len i k h l) (b (i * len + k)))
    (λ (l : len ≤ k). let m : length (row_of s len i) ≤ k = omega (arith, row-length s len i h) in rw (get_or-eq_default (row_of s len i) 0 m) (omega arith))
    (lt-or-le k len))
    (lt-or-le (length s) (i * len + len))

-- bit k of a row wholly inside
pub bit_at-row : (s : List ℕ) (len i k : ℕ) → i * len + len ≤ length s → k < 8 * len → bit_at (row_of s len i) k ≡ bit_at s (8 * (i * len) + k)
unfolding bit_at
bit_at-row s len i k h l =
    let j : k / 8 < len = omega arith in
    let p : i * len + k / 8 ≡ (8 * (i * len) + k) / 8 = omega arith in
    let q : k % 8 ≡ (8 * (i * len) + k) % 8 = omega arith in
    ap (λ (x : ℕ). test_bit x (k % 8)) (row-get_or s len i (k / 8) h j) ∙ ap₂ (λ (x y : ℕ). test_bit (get_or s x 0) y) p q

-- row i is inside where i is below the number of whole rows
pub inside : (n len i : ℕ) → 0 < len → i < n / len → i * len + len ≤ n
inside n len i p h = omega (arith, (le-div_iff_mul-le {x = suc i} {y = n} p).0 h, suc-mul i len)

-- and it is not wholly inside from that number on
pub outside : (n len i : ℕ) → 0 < len → n / len ≤ i → n < i * len + len
outside n len i p h = omega (arith, lt-div-mul-add {a = n} p, mul-le-mul_right len h)

-- row i of n rows is inside
pub row_fits : (n len i : ℕ) → i < n → i * len + len ≤ n * len
row_fits n len i h = omega (arith, mul-le-mul_right len h, suc-mul i len)

-- rows of len bytes, one after the other, are n * len bytes
pub length-flatten : (len : ℕ) (rows : List (List ℕ)) → ((i : ℕ) → i < length rows → length (get_or rows i []) ≡ len) → length (flatten rows) ≡ length rows * len
unfolding flatten
length-flatten len [] h = sym (zero-mul len)
length-flatten len (r ∷ rows) h =
    omega (arith, length-append r (flatten rows), h 0 (omega arith), length-flatten len rows (λ i l. h (suc i) (omega arith)), suc-mul (length rows) len)

-- that part of rows one after the other is the i-th
part : (len : ℕ) (rows : List (List ℕ)) → ((i : ℕ) → i < length rows → length (get_or rows i []) ≡ len) → (i : ℕ) → i < length rows
    → take len (drop (i * len) (flatten rows)) ≡ get_or rows i []
unfolding flatten
part len [] h i l = absurd (omega arith)
part len (r ∷ rows) h zero l = ap (λ (k : ℕ). take len (drop k (r ++ flatten rows))) (zero-mul len) ∙ take_at r (flatten rows) len (h 0 l)
part len (r ∷ rows) h (suc i) l =
    let e : suc i * len ≡ length r + i * len = omega (arith, suc-mul i len, h 0 (omega arith)) in
    ap (λ (k : ℕ). take len (drop k (r ++ flatten rows))) e ∙ ap (take len) (drop-append-add r (flatten rows) (i * len))
    ∙ part len rows (λ k m. h (suc k) (omega arith)) i (omega arith)

-- row i of rows of len bytes, one after the other, is the i-th of them
pub row-flatten : (len : ℕ) (rows : List (List ℕ)) → ((i : ℕ) → i < length rows → length (get_or rows i []) ≡ len) → (i : ℕ) → i < length rows → row_of (flatten rows) len i ≡ get_or rows i []
row-flatten len rows h i l =
    row_inside (flatten rows) len i (omega (arith, row_fits (length rows) len i l, length-flatten len rows h)) ∙ part len rows h i l

-- row i of n rows of len bytes, given one by one
pub row-tabulate : (len n : ℕ) (f : ℕ → List ℕ) → ((i : ℕ) → i < n → length (f i) ≡ len) → (i : ℕ) → i < n → row_of (flatten (tabulate n f)) len i ≡ f i
row-tabulate len n f h i l =
    row-flatten len (tabulate n f) (λ k m. let q : k < n = omega (arith, length-tabulate n f) in ap length (get_d_tabulate n f k [] q) ∙ h k q) i
    (omega (arith, length-tabulate n f))
    ∙ get_d_tabulate n f i [] l

-- rows one after the other, with one more at the end
pub flatten-more : (i : ℕ) (f : ℕ → List ℕ) → flatten (tabulate i f) ++ f i ≡ flatten (tabulate (suc i) f)
unfolding flatten
flatten-more zero f = sym (append-nil (f 0))
flatten-more (suc i) f =
    append_assoc (f 0) (flatten (tabulate i (λ k. f (suc k)))) (f (suc i)) ∙ ap (λ (t : List ℕ). f 0 ++ t) (flatten-more i (λ k. f (suc k)))

-- a buffer that is filled row by row: no row is made yet
pub rows_none : (len : ℕ) (rows : List ℕ) → take (0 * len) rows ≡ flatten []
unfolding flatten
rows_none len rows = ap (λ (k : ℕ). take k rows) (zero-mul len)

-- row i is from byte a to byte e
module _ (len i a e : ℕ) (from : a ≡ i * len) (to : e ≡ a + len) (rows : List ℕ) (within : e ≤ length rows) where
  -- it is len bytes
  pub part_length : length (mid_of a (e - a) rows) ≡ len
  part_length = mid_len a e rows within ∙ omega (arith, to)

  -- one row more: z is put in the place of row i
  pub rows-turn : (g : ℕ → List ℕ) (z : List ℕ) → length z ≡ len → take (i * len) rows ≡ flatten (tabulate i g) → z ≡ g i
      → take ((i + 1) * len) (put_mid a (e - a) rows z) ≡ flatten (tabulate (i + 1) g)
  rows-turn g z l p q =
      let post : List ℕ = post_of a (e - a) rows in
      let n : length (take a rows ++ z) ≡ (i + 1) * len
      = omega (arith, from, to, within, l, length-append (take a rows) z, length-take-le a rows (omega (arith, to, within)), ap (λ (k : ℕ). k * len) (add-one i), suc-mul i len) in
      ap (take ((i + 1) * len)) (sym (append_assoc (take a rows) z post)) ∙ take_at (take a rows ++ z) post ((i + 1) * len) n
      ∙ ap₂ ◌++◌ (ap (λ (k : ℕ). take k rows) from ∙ p) q ∙ flatten-more i g ∙ ap (λ (k : ℕ). flatten (tabulate k g)) (sym (add-one i))
