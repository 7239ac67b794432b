-- The bits of the XOR of the rows, and of the memory when the input masks are loaded.
-- Assumes nothing.
use mathlib.Core.Path.{◌≡◌, refl, sym, ap, ap₂, ◌∙◌}
use mathlib.Core.Bool.{false}
use mathlib.Core.List.{List, ◌++◌}
use Prim.Native.Nat.{ℕ, zero, suc, ◌+◌, ◌-◌, ◌*◌, ◌/◌, ◌%◌, ◌≤◌, ◌<◌}
use native.Mathlib.Nat.{zero-add}
use native.Mathlib.Omega.{arith}
use lib.Bits.{bit_xor}
use lib.ListN.{length, take, drop, replicate}
use Rattle.std.proofs.lemmas.Grind.{same_number_lists}
use Rattle.std.proofs.lemmas.List.{places}
use lib.Seq.{ext_get_or, get_or-take, length-take-le}
use Rattle.bits.specs.Bits.{bit_val, odd, test_bit, bit_at}
use Rattle.bits.specs.Bytes.{row_of}
use Rattle.bits.specs.Xor.{◌⊕◌, xors}
use Rattle.bits.proofs.Bitwise.{test_bit-xor}
use Rattle.bits.proofs.Numbers.{odd-bit_val, test_bit-zero}
use Rattle.bits.proofs.Rows.{row_fits, row-get_or, row-length}
use Rattle.words.specs.Steps.{at, fill}
use Rattle.words.proofs.Fill.{fill-at, fill-length, fill-other}
use Rattle.masks.specs.Steps.{tape_bit, cleared, added, summed, loaded, sum_bit}
use Rattle.masks.proofs.Parts.{drop-fill}

-- a bit of the bytes from `to` on
bit-place : (m : List ℕ) (to q : ℕ) → bit_at m (tape_bit to q) ≡ test_bit (at m (to + q / 8)) (q % 8)
unfolding bit_at
bit-place m to q =
    let e : (8 * to + q) / 8 ≡ to + q / 8 = omega arith in
    let d : (8 * to + q) % 8 ≡ q % 8 = omega arith in
    ap₂ (λ (j z : ℕ). test_bit (at m j) z) e d

-- a bit of a byte string
bit_byte : (s : List ℕ) (q : ℕ) → bit_at s q ≡ test_bit (at s (q / 8)) (q % 8)
unfolding bit_at
bit_byte s q = refl

module _ (to len : ℕ) (m : List ℕ) where
  pub clear-length : length (cleared to len m) ≡ length m
  unfolding cleared
  clear-length = fill-length _ _ m len

  -- a byte that is cleared
  pub clear_at : (j : ℕ) → j < len → to + len ≤ length m → at (cleared to len m) (to + j) ≡ 0
  unfolding cleared
  clear_at j l h = fill-at (λ i. to + i) (λ i. 0) m len j l (omega arith) (λ u a b. omega arith)

  -- and one after them
  clear-after : (j : ℕ) → to + len ≤ j → at (cleared to len m) j ≡ at m j
  unfolding cleared
  clear-after j h = fill-other (λ i. to + i) (λ i. 0) m len j (λ u l. omega arith)

  -- the part before them, zeros, and the part after them
  pub clear-part : to + len ≤ length m → take to m ++ replicate len 0 ++ drop (to + len) m ≡ cleared to len m
  unfolding cleared
  clear-part h =
      same_number_lists _ _ (search (arith, places, clear-length))
      (λ k l.
      let before : k < to → at (cleared to len m) k ≡ at m k = λ q. fill-other (λ i. to + i) (λ i. 0) m len k (λ u r. omega arith) in
      let zero_at : to ≤ k → k < to + len → at (cleared to len m) k ≡ 0 =
      λ p q. let r : k ≡ to + (k - to) = omega arith in ap (at (cleared to len m)) r ∙ clear_at (k - to) (omega arith) h in
      let after = clear-after k in
      grind (arith, places, before, zero_at, after))

module _ (tapes : List ℕ) (len to : ℕ) (m : List ℕ) where
  pub sum-length : (n : ℕ) → length (summed tapes len to n m) ≡ length m
  unfolding summed added
  sum-length zero = clear-length to len m
  sum-length (suc n) = fill-length _ _ (summed tapes len to n m) len ∙ sum-length n

  -- a bit of the sum is the XOR of the rows' bits
  pub sum-bit : (n q : ℕ) → q < 8 * len → to + len ≤ length m → bit_at (summed tapes len to n m) (tape_bit to q) ≡ sum_bit tapes len n q
  unfolding summed added sum_bit xors
  sum-bit zero q l h =
      bit-place (cleared to len m) to q ∙ ap (λ (x : ℕ). test_bit x (q % 8)) (clear_at to len m (q / 8) (omega arith) h) ∙ test_bit-zero (q % 8)
  sum-bit (suc n) q l h =
      let k : List ℕ = summed tapes len to n m in
      let row : List ℕ = row_of tapes len n in
      let f : ℕ → ℕ = λ j. bit_xor (at k (to + j)) (at row j) in
      bit-place (fill (λ j. to + j) f len k) to q
      ∙ ap (λ (x : ℕ). test_bit x (q % 8)) (fill-at (λ j. to + j) f k len (q / 8) (omega arith) (omega (arith, sum-length n)) (λ u a b. omega arith))
      ∙ test_bit-xor (at k (to + q / 8)) (at row (q / 8)) (q % 8)
      ∙ ap₂ ◌⊕◌ (sym (bit-place k to q) ∙ sum-bit n q l h) (sym (bit_byte row q))

-- the memory with the input masks loaded
module _ (W I : ℕ) (low : I ≤ W) (m : List ℕ) (room : W ≤ length m) where
  abbrev c : List ℕ
  c = cleared 0 W m

  abbrev f : ℕ → ℕ
  f k = bit_val (bit_at c (tape_bit W k))

  pub load-length : length (loaded W I m) ≡ length m
  unfolding loaded
  load-length = fill-length (λ k. k) f c I ∙ clear-length 0 W m

  -- a byte of the row is kept
  kept_byte : (j : ℕ) → W ≤ j → at (loaded W I m) j ≡ at m j
  unfolding loaded
  kept_byte j h = fill-other (λ k. k) f c I j (λ u l. omega arith) ∙ clear-after 0 W m j (omega arith)

  -- so are its bits
  pub load_kept : (q : ℕ) → bit_at (loaded W I m) (tape_bit W q) ≡ bit_at m (tape_bit W q)
  load_kept q =
      bit-place (loaded W I m) W q ∙ ap (λ (x : ℕ). test_bit x (q % 8)) (kept_byte (W + q / 8) (omega arith)) ∙ sym (bit-place m W q)

  -- an input wire has its mask
  pub load-input : (w : ℕ) → w < I → odd (at (loaded W I m) w) ≡ bit_at m (tape_bit W w)
  unfolding loaded
  load-input w l =
      ap odd (fill-at (λ k. k) f c I w l (omega (arith, clear-length 0 W m)) (λ u a b. omega arith)) ∙ odd-bit_val (bit_at c (tape_bit W w))
      ∙ bit-place c W w ∙ ap (λ (x : ℕ). test_bit x (w % 8)) (clear-after 0 W m (W + w / 8) (omega arith)) ∙ sym (bit-place m W w)

  -- another wire has zero
  pub load-other : (w : ℕ) → I ≤ w → w < W → odd (at (loaded W I m) w) ≡ false
  unfolding loaded
  load-other w h l =
      ap odd (fill-other (λ k. k) f c I w (λ u a. omega arith) ∙ ap (at c) (sym (zero-add w)) ∙ clear_at 0 W m w l (omega arith)) ∙ odd-bit_val false

-- the sums are made before place j
pub drop-summed : (tapes : List ℕ) (len to n : ℕ) (m : List ℕ) (j : ℕ) → to + len ≤ j → drop j (summed tapes len to n m) ≡ drop j m
unfolding summed added cleared
drop-summed tapes len to zero m j h = drop-fill _ _ m len j (λ t l. omega arith)
drop-summed tapes len to (suc n) m j h = drop-fill _ _ (summed tapes len to n m) len j (λ t l. omega arith) ∙ drop-summed tapes len to n m j h

-- so are the inputs' masks
pub drop-loaded : (W I : ℕ) (m : List ℕ) (j : ℕ) → I ≤ W → W ≤ j → drop j (loaded W I m) ≡ drop j m
unfolding loaded cleared
drop-loaded W I m j l h = drop-fill _ _ (cleared 0 W m) I j (λ t q. omega arith) ∙ drop-fill _ _ m W j (λ t q. omega arith)

-- a row among the first n
row-take : (t : List ℕ) (len n i : ℕ) → i < n → n * len ≤ length t → row_of (take (n * len) t) len i ≡ row_of t len i
row-take t len n i l h =
    let fits = row_fits n len i l in
    let size : length (take (n * len) t) ≡ n * len = length-take-le (n * len) t h in
    let a : length (row_of (take (n * len) t) len i) ≡ len = row-length (take (n * len) t) len i (omega (arith, fits, size)) in
    ext_get_or 0 (row_of (take (n * len) t) len i) (row_of t len i) (a ∙ sym (row-length t len i (omega (arith, fits, h))))
    (λ k q.
    let low : k < len = omega (arith, a, q) in
    row-get_or (take (n * len) t) len i k (omega (arith, fits, size)) low ∙ get_or-take (n * len) t (i * len + k) 0 (omega (arith, fits, low))
    ∙ sym (row-get_or t len i k (omega (arith, fits, h)) low))

-- the sum of the first i of them
pub sum-take : (t : List ℕ) (len to n i : ℕ) (m : List ℕ) → i ≤ n → n * len ≤ length t → summed t len to i m ≡ summed (take (n * len) t) len to i m
unfolding summed
sum-take t len to n zero m l h = refl
sum-take t len to n (suc i) m l h =
    ap₂ (λ (row v : List ℕ). added row to len v) (sym (row-take t len n i l h)) (sum-take t len to n i m (omega arith) h)
