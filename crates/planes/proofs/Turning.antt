-- Rows to words and words to rows: one turn of each loop, and the words of the loaded tapes, which are the columns of the rows' bits.
-- Assumes nothing.
use mathlib.Core.Path.{◌≡◌, refl, sym, ap, ap₂, ◌∙◌}
use mathlib.Core.Bool.{Bool, cond}
use mathlib.Core.List.{List, [], ◌∷◌, ◌++◌}
use mathlib.Core.Logic.{⊎_elim, ◌≢◌}
use Prim.Native.Nat.{ℕ, zero, suc, ◌+◌, ◌-◌, ◌*◌, ◌/◌, ◌%◌, ◌^◌, ◌≤◌, ◌<◌}
use native.Mathlib.Nat.{add-mul, add-suc, add-zero, lt_of_lt_of_le, mul_assoc, mul_comm, mul-le-mul_right}
use native.Mathlib.Numerals.{add-one}
use native.Mathlib.Omega.{arith}
use borrow.Author.Tests.{lt-ltb, le-ltb}
use lib.Dec.{ltb}
use lib.ListN.{length, get_or, take, drop, replicate}
use lib.Seq.{sets}
use Rattle.std.proofs.lemmas.Grind.{same_number_lists}
use Rattle.std.proofs.lemmas.List.{places}
use lib.Pow.{pow_mono, pow_pos}
use Rattle.bits.specs.Bits.{bit_val, odd, test_bit, from_bits, bit_at}
use Rattle.bits.specs.Bytes.{le_at, le_bytes}
use Rattle.bits.proofs.Numbers.{eq-or-ne, ext-bits, from_bits-cong, from_bits-lt, lt-or-le, odd-bit_val, test_bit-from_bits, test_bit-high, test_bit-zero}
use Rattle.bits.proofs.Packing.{bit_at-byte}
use Rattle.words.specs.Words.{every, place, chosen}
use Rattle.words.specs.Steps.{at, fill, turned}
use Rattle.blocks.specs.Steps.{column_words, transposed_rows, stored_column}
use Rattle.words.proofs.Fill.{fill-at, fill-cong, fill-join, fill-length, fill_none, fill-other}
use Rattle.words.proofs.Turns.{blocks, blocks-bit, blocks-lt, le_at-blocks}
use Rattle.blocks.proofs.Columns.{column-bits, column-end, column-turned}
use Rattle.planes.specs.Steps.{tape_words, tape_at, broadcast_word, cleared, cleared_tapes, loaded_words, rows_in, loaded_groups, loaded_tapes, stored_words, stored_groups, stored_rows, put_bits, put_party}
use Rattle.planes.specs.declared.Layout.{Layout}

-- a part cleared at once: what stands before it, zeros, and what stands after it
pub clear-part : (to count : ℕ) (m : List ℕ) → to + count ≤ length m → take to m ++ replicate count 0 ++ drop (to + count) m ≡ cleared to count m
unfolding cleared
clear-part to count m h =
    same_number_lists _ _ (search (arith, places, fill-length))
    (λ k l.
    let byte : ℕ → ℕ = at (cleared to count m) in
    let before : k < to → byte k ≡ at m k = λ q. fill-other (λ j. to + j) (λ j. 0) m count k (λ u r. omega arith) in
    let zero_at : to ≤ k → k < to + count → byte k ≡ 0 =
    λ p q.
    let r : k ≡ to + (k - to) = omega arith in
    ap byte r ∙ fill-at (λ j. to + j) (λ j. 0) m count (k - to) (omega arith) (omega arith) (λ u a b. omega arith) in
    let after : to + count ≤ k → byte k ≡ at m k = λ q. fill-other (λ j. to + j) (λ j. 0) m count k (λ u r. omega arith) in
    grind (arith, places, before, zero_at, after))

-- no byte yet
pub load-none : (n : ℕ) (s : List ℕ) (a len to : ℕ) (w : List ℕ) → w ≡ loaded_words n s a len 0 to w
unfolding loaded_words
load-none n s a len to w = fill_none _ _ w

-- one byte more of each row
pub load-turn : (n : ℕ) (s w m v : List ℕ) (a len to k : ℕ) → m ≡ loaded_words n s a len k to w → v ≡ turned n 8 s (a + k) len (to + 64 * k) 8 m
    → v ≡ loaded_words n s a len (k + 1) to w
unfolding loaded_words turned
load-turn n s w m v a len to k e d =
    let pos : ℕ → ℕ = λ q. to + 8 * q in
    let f : ℕ → ℕ = λ q. from_bits n (λ p. bit_at s (8 * (a + p * len) + q)) in
    let pos' : ℕ → ℕ = λ t. to + 64 * k + t * 8 in
    let f' : ℕ → ℕ = λ t. from_bits n (λ p. test_bit (at s (a + k + p * len)) t) in
    let i : 8 * k + 8 ≡ 8 * (k + 1) = omega arith in
    d ∙ ap (fill pos' f' 8) e
    ∙ fill-join pos f pos' f' w (8 * k) 8 (λ z l. omega arith)
    (λ z l. from_bits-cong n (λ p. test_bit (at s (a + k + p * len)) z) (λ p. bit_at s (8 * (a + p * len) + (8 * k + z)))
    (λ p h.
    let u : 8 * (a + k + p * len) + z ≡ 8 * (a + p * len) + (8 * k + z) = omega arith in
    sym (bit_at-byte s (a + k + p * len) z l) ∙ ap (bit_at s) u))
    ∙ ap (λ (c : ℕ). fill pos f c w) i

-- no byte yet
pub store-none : (n : ℕ) (m : List ℕ) (from a len : ℕ) (w : List ℕ) → w ≡ stored_words n m from 0 a len w
unfolding stored_words
store-none n m from a len w = refl

-- one byte more of each row
pub store-turn : (n : ℕ) (m w r v : List ℕ) (from a len k : ℕ) → r ≡ stored_words n m from k a len w → v ≡ turned 8 n m (from + 64 * k) 8 (a + k) len r
    → v ≡ stored_words n m from (k + 1) a len w
unfolding stored_words turned
store-turn n m w r v from a len k e d =
    let f : ℕ → ℕ = λ p. from_bits 8 (λ t. test_bit (at m (from + 8 * (8 * k + t))) p) in
    d ∙ ap (fill (λ p. a + k + p * len) (λ p. from_bits 8 (λ t. test_bit (at m (from + 64 * k + t * 8)) p)) n) e
    ∙ fill-cong (λ p. a + k + p * len) _ f (stored_words n m from k a len w) n
    (λ p l. from_bits-cong 8 (λ t. test_bit (at m (from + 64 * k + t * 8)) p) (λ t. test_bit (at m (from + 8 * (8 * k + t))) p)
    (λ t h.
    let g : from + 64 * k + t * 8 ≡ from + 8 * (8 * k + t) = omega arith in
    ap (λ (u : ℕ). test_bit (at m u) p) g))
    ∙ rw add-one

-- a column of a block of words
pub store-column : (n : ℕ) (m w r v c : List ℕ) (from a len b : ℕ) → n ≤ 8 → b < 8 → c ≡ transposed_rows (column_words m from)
    → r ≡ stored_words n m from b a len w → v ≡ stored_column n c b (a + b) len r → v ≡ stored_words n m from (b + 1) a len w
store-column n m w r v c from a len b few hb e f d =
    store-turn n m w r v from a len b f
    (column-turned 8 n m r v (column_words m from) c (from + 64 * b) 8 (a + b) len b (omega arith) few hb
    (λ p t hp ht. column-bits m from b p t hp hb ht) (λ p t hp. column-end m from (8 * b + t) p hp) e d)

-- c bytes more of each row
pub store-more : (n : ℕ) (m w r : List ℕ) (from a len k c : ℕ) → r ≡ stored_words n m from k a len w
    → stored_words n m (from + 64 * k) c (a + k) len r ≡ stored_words n m from (k + c) a len w
unfolding stored_words
store-more n m w r from a len k zero e = e ∙ ap (λ (i : ℕ). stored_words n m from i a len w) (sym (add-zero k))
store-more n m w r from a len k (suc c) e =
    let start : a + k + c ≡ a + (k + c) = omega arith in
    let next : suc (k + c) ≡ k + suc c = omega arith in
    let f : ℕ → ℕ = λ p. from_bits 8 (λ t. test_bit (at m (from + 8 * (8 * (k + c) + t))) p) in
    ap₂ (λ (i : ℕ) (x : List ℕ). fill (λ p. i + p * len) (λ p. from_bits 8 (λ t. test_bit (at m (from + 64 * k + 8 * (8 * c + t))) p)) n x) start
    (store-more n m w r from a len k c e)
    ∙ fill-cong (λ p. a + (k + c) + p * len) _ f (stored_words n m from (k + c) a len w) n
    (λ p l. from_bits-cong 8 _ (λ t. test_bit (at m (from + 8 * (8 * (k + c) + t))) p)
    (λ t h.
    let g : from + 64 * k + 8 * (8 * c + t) ≡ from + 8 * (8 * (k + c) + t) = omega arith in
    ap (λ (u : ℕ). test_bit (at m u) p) g))
    ∙ ap (λ (i : ℕ). stored_words n m from i a len w) next

-- no group yet
pub tapes-none : (n : ℕ) (s : List ℕ) (len to : ℕ) (m : List ℕ) → m ≡ loaded_groups n s len 0 to m
unfolding loaded_groups
tapes-none n s len to m = refl

-- one group more
pub tapes-turn : (n r : ℕ) (s m v w : List ℕ) (len to g : ℕ) → r ≡ rows_in n g → m ≡ loaded_groups n s len g to w
    → v ≡ loaded_words r s (g * (8 * len)) len len (to + g) m → v ≡ loaded_groups n s len (g + 1) to w
unfolding loaded_groups
tapes-turn n r s m v w len to g h e d =
    d ∙ ap₂ (λ (x : ℕ) (y : List ℕ). loaded_words x s (g * (8 * len)) len len (to + g) y) h e ∙ rw add-one

-- r rows from row 8 g on lie within n rows
pub group-within : (n g r len : ℕ) → 8 * g + r ≤ n → g * (8 * len) + r * len ≤ n * len
group-within n g r len h =
    let e : g * (8 * len) ≡ 8 * g * len = sym (mul_assoc g 8 len) ∙ ap (λ (k : ℕ). k * len) (mul_comm g 8) in
    omega (arith, mul-le-mul_right len h, add-mul (8 * g) r len)

-- place p < 8 is one of group b's where 8 b + p is a party
pub rows_in_lem : (n b p : ℕ) → p < 8 → 8 * b + p < n → p < rows_in n b
unfolding rows_in
rows_in_lem n b p l h =
    ⊎_elim (λ (q : n - 8 * b < 8). rw (lt-ltb (n - 8 * b) 8 q) (omega arith)) (λ (q : 8 ≤ n - 8 * b). rw (le-ltb (n - 8 * b) 8 q) l) (lt-or-le (n - 8 * b) 8)

-- and only there
rows_out : (n b p : ℕ) → p < 8 → n ≤ 8 * b + p → rows_in n b ≤ p
unfolding rows_in
rows_out n b p l h =
    let q : n - 8 * b < 8 = omega arith in
    rw (lt-ltb (n - 8 * b) 8 q) (omega arith)

pub rows_few : (n b : ℕ) → rows_in n b ≤ 8
unfolding rows_in
rows_few n b =
    ⊎_elim (λ (q : n - 8 * b < 8). rw (lt-ltb (n - 8 * b) 8 q) (omega arith)) (λ (q : 8 ≤ n - 8 * b). rw (le-ltb (n - 8 * b) 8 q) (omega arith)) (lt-or-le (n - 8 * b) 8)

-- the rows of a group are rows of the n parties
pub rows_left : (n g : ℕ) → 8 * g ≤ n → 8 * g + rows_in n g ≤ n
unfolding rows_in
rows_left n g h =
    ⊎_elim (λ (q : n - 8 * g < 8). rw (lt-ltb (n - 8 * g) 8 q) (omega arith)) (λ (q : 8 ≤ n - 8 * g). rw (le-ltb (n - 8 * g) 8 q) (omega arith)) (lt-or-le (n - 8 * g) 8)

-- bit q of the row of party i
abbrev pub row_bit : List ℕ → ℕ → ℕ → ℕ → Bool
row_bit s len q i = bit_at s (8 * (i * len) + q)

-- bits q of the rows of group b
abbrev pub group_byte : ℕ → List ℕ → ℕ → ℕ → ℕ → ℕ
group_byte n s len q b = from_bits (rows_in n b) (λ p. bit_at s (8 * (b * (8 * len) + p * len) + q))

module _ (n : ℕ) (s : List ℕ) (len to : ℕ) (m : List ℕ) where
  pub tapes-length : (g : ℕ) → length (loaded_groups n s len g to m) ≡ length m
  unfolding loaded_groups loaded_words
  tapes-length zero = refl
  tapes-length (suc g) = fill-length _ _ (loaded_groups n s len g to m) (8 * len) ∙ tapes-length g

  -- byte b of word q: the bits q of the rows of group b, once that is loaded
  tapes-byte : (g b q : ℕ) → to + 64 * len ≤ length m → g ≤ 8 → b < 8 → q < 8 * len
      → get_or (loaded_groups n s len g to m) (to + 8 * q + b) 0 ≡ cond (ltb b g) (group_byte n s len q b) (get_or m (to + 8 * q + b) 0)
  unfolding loaded_groups loaded_words
  tapes-byte zero b q room few l h = rw (le-ltb b 0 (omega arith))
  tapes-byte (suc g) b q room few l h =
      let k : List ℕ = loaded_groups n s len g to m in
      let f : ℕ → ℕ = λ i. from_bits (rows_in n g) (λ p. bit_at s (8 * (g * (8 * len) + p * len) + i)) in
      let size = tapes-length g in
      ⊎_elim
      (λ e.
      let pos : to + 8 * q + b ≡ to + g + 8 * q = omega arith in
      rw (lt-ltb b (suc g) (omega arith))
      (ap (λ (i : ℕ). get_or (fill (λ j. to + g + 8 * j) f (8 * len) k) i 0) pos
      ∙ fill-at (λ j. to + g + 8 * j) f k (8 * len) q h (omega arith) (λ u i j. omega arith)
      ∙ ap (group_byte n s len q) (sym e)))
      (λ e.
      fill-other (λ j. to + g + 8 * j) f k (8 * len) (to + 8 * q + b) (λ u i. omega arith)
      ∙ tapes-byte g b q room (omega arith) l h
      ∙ ap (λ (c : Bool). cond c (group_byte n s len q b) (get_or m (to + 8 * q + b) 0)) (same-side b g e))
      (eq-or-ne b g)
    where
      same-side : (b g : ℕ) → b ≢ g → ltb b g ≡ ltb b (suc g)
      same-side b g e =
          ⊎_elim (λ l. lt-ltb b g l ∙ sym (lt-ltb b (suc g) (omega arith))) (λ l. le-ltb b g l ∙ sym (le-ltb b (suc g) (omega arith))) (lt-or-le b g)

blocks-cong : (w : ℕ) (f g : ℕ → ℕ) (n : ℕ) → ((i : ℕ) → i < n → f i ≡ g i) → blocks w f n ≡ blocks w g n
unfolding blocks
blocks-cong w f g zero h = refl
blocks-cong w f g (suc n) h = ap₂ (λ (x y : ℕ). x * 2 ^ (w * n) + y) (h n (omega arith)) (blocks-cong w f g n (λ i l. h i (omega arith)))

-- zero beyond the last group
abbrev group : ℕ → List ℕ → ℕ → ℕ → ℕ → ℕ → ℕ
group n s len q groups b = cond (ltb b groups) (group_byte n s len q b) 0

group-lt : (n : ℕ) (s : List ℕ) (len q groups b : ℕ) → group n s len q groups b < 2 ^ 8
group-lt n s len q groups b =
    ⊎_elim (λ l. rw (lt-ltb b groups l) (lt_of_lt_of_le (from_bits-lt (rows_in n b) _) (pow_mono (rows_few n b)))) (λ l. rw (le-ltb b groups l) (pow_pos 8))
    (lt-or-le b groups)

-- a bit of a group's byte is that of the whole column
byte-bit : (n : ℕ) (s : List ℕ) (len q z : ℕ) → test_bit (group_byte n s len q (z / 8)) (z % 8) ≡ test_bit (from_bits n (row_bit s len q)) z
byte-bit n s len q z =
    let b = z / 8 in
    let p = z % 8 in
    let f : ℕ → Bool = λ k. bit_at s (8 * (b * (8 * len) + k * len) + q) in
    let d : z ≡ b * 8 + p = omega arith in
    let l : p < 8 = omega arith in
    let i : b * (8 * len) + p * len ≡ z * len = sym (ap (λ (k : ℕ). k * len) d ∙ add-mul (b * 8) p len ∙ ap (λ (k : ℕ). k + p * len) (mul_assoc b 8 len)) in
    ⊎_elim
    (λ (h : z < n).
    let u : 8 * b + p < n = omega arith in
    test_bit-from_bits (rows_in n b) f p (rows_in_lem n b p l u) ∙ ap (λ (k : ℕ). bit_at s (8 * k + q)) i ∙ sym (test_bit-from_bits n (row_bit s len q) z h))
    (λ (h : n ≤ z).
    let u : n ≤ 8 * b + p = omega arith in
    test_bit-high (rows_in n b) (from_bits (rows_in n b) f) p (from_bits-lt (rows_in n b) f) (rows_out n b p l u)
    ∙ sym (test_bit-high n (from_bits n (row_bit s len q)) z (from_bits-lt n (row_bit s len q)) h))
    (lt-or-le z n)

group-bit : (n : ℕ) (s : List ℕ) (len q groups z : ℕ) → n ≤ 8 * groups
    → test_bit (group n s len q groups (z / 8)) (z % 8) ≡ test_bit (from_bits n (row_bit s len q)) z
group-bit n s len q groups z e =
    ⊎_elim
    (λ (l : z / 8 < groups). ap (λ (c : Bool). test_bit (cond c (group_byte n s len q (z / 8)) 0) (z % 8)) (lt-ltb (z / 8) groups l) ∙ byte-bit n s len q z)
    (λ (l : groups ≤ z / 8).
    let h : n ≤ z = omega arith in
    ap (λ (c : Bool). test_bit (cond c (group_byte n s len q (z / 8)) 0) (z % 8)) (le-ltb (z / 8) groups l)
    ∙ test_bit-zero (z % 8) ∙ sym (test_bit-high n (from_bits n (row_bit s len q)) z (from_bits-lt n (row_bit s len q)) h))
    (lt-or-le (z / 8) groups)

-- no group of rows yet
pub stored-none : (n : ℕ) (m : List ℕ) (from len : ℕ) (w : List ℕ) → w ≡ stored_groups n m from len 0 w
unfolding stored_groups
stored-none n m from len w = refl

-- one group more
pub stored-turn : (n r : ℕ) (m v w k : List ℕ) (from len g : ℕ) → r ≡ rows_in n g → k ≡ stored_groups n m from len g w
    → v ≡ stored_words r m (from + g) len (g * (8 * len)) len k → v ≡ stored_groups n m from len (g + 1) w
unfolding stored_groups
stored-turn n r m v w k from len g h e d =
    d ∙ ap₂ (λ (x : ℕ) (y : List ℕ). stored_words x m (from + g) len (g * (8 * len)) len y) h e ∙ rw add-one

-- no bit is put yet
pub put-none : (to hidden : ℕ) (row m : List ℕ) → m ≡ put_bits to hidden row 0 m
unfolding put_bits
put-none to hidden row m = refl

-- a bit of one byte
bit-single : (x t : ℕ) → t < 8 → bit_at (x ∷ []) t ≡ test_bit x t
bit-single x t l =
    let e : t ≡ 8 * 0 + t = omega arith in
    ap (bit_at (x ∷ [])) e ∙ bit_at-byte (x ∷ []) 0 t l

-- one more
pub put-turn : (to hidden t k old new x : ℕ) (row m v w : List ℕ) → m ≡ put_bits to hidden row t w → old ≡ le_at 8 m (to + 8 * t) → k ≡ bit_val (bit_at row t)
    → new ≡ every 64 (odd k) → x ≡ chosen hidden new old → v ≡ sets m (to + 8 * t) (le_bytes 8 x) → v ≡ put_bits to hidden row (t + 1) w
unfolding put_bits
put-turn to hidden t k old new x row m v w e o b n c d =
    let y : new ≡ every 64 (bit_at row t) = n ∙ ap (λ (z : ℕ). every 64 (odd z)) b ∙ ap (every 64) (odd-bit_val (bit_at row t)) in
    d ∙ ap (λ (z : ℕ). sets m (to + 8 * t) (le_bytes 8 z)) (c ∙ ap₂ (chosen hidden) y o)
    ∙ ap (λ (z : List ℕ). sets z (to + 8 * t) (le_bytes 8 (chosen hidden (every 64 (bit_at row t)) (le_at 8 z (to + 8 * t))))) e ∙ rw add-one

-- one more bit of a byte x
pub put-byte-turn : (to hidden t old new x y : ℕ) (m v w : List ℕ) → t < 8 → m ≡ put_bits to hidden (x ∷ []) t w → old ≡ le_at 8 m (to + 8 * t)
    → new ≡ every 64 (odd (x / 2 ^ t)) → y ≡ chosen hidden new old → v ≡ sets m (to + 8 * t) (le_bytes 8 y) → v ≡ put_bits to hidden (x ∷ []) (t + 1) w
unfolding test_bit
put-byte-turn to hidden t old new x y m v w l e o n c d =
    let b : bit_at (x ∷ []) t ≡ odd (x / 2 ^ t) = bit-single x t l in
    put-turn to hidden t (bit_val (bit_at (x ∷ []) t)) old new y (x ∷ []) m v w e o refl
    (n ∙ ap (every 64) (sym (odd-bit_val (bit_at (x ∷ []) t) ∙ b))) c d

-- the bits of byte k of a row
put-add : (to hidden k x c : ℕ) (row w : List ℕ) → x ≡ get_or row k 0 → c ≤ 8
    → put_bits (to + 64 * k) hidden (x ∷ []) c (put_bits to hidden row (8 * k) w) ≡ put_bits to hidden row (8 * k + c) w
unfolding put_bits
put-add to hidden k x zero row w e l = ap (λ (i : ℕ). put_bits to hidden row i w) (sym (add-zero (8 * k)))
put-add to hidden k x (suc c) row w e l =
    let f : ℕ → List ℕ → Bool → List ℕ = λ i z b. sets z i (le_bytes 8 (chosen hidden (every 64 b) (le_at 8 z i))) in
    let p : to + 64 * k + 8 * c ≡ to + 8 * (8 * k + c) = omega arith in
    let b : bit_at (x ∷ []) c ≡ bit_at row (8 * k + c) =
    bit-single x c (omega arith) ∙ ap (λ (y : ℕ). test_bit y c) e ∙ sym (bit_at-byte row k c (omega arith)) in
    ap₂ (λ (i : ℕ) (z : List ℕ). f i z (bit_at (x ∷ []) c)) p (put-add to hidden k x c row w e (omega arith))
    ∙ ap (f (to + 8 * (8 * k + c)) (put_bits to hidden row (8 * k + c) w)) b ∙ ap (λ (i : ℕ). put_bits to hidden row i w) (sym (add-suc (8 * k) c))

-- one more byte
pub put-bytes-turn : (to hidden k x : ℕ) (row m v w : List ℕ) → m ≡ put_bits to hidden row (8 * k) w → x ≡ get_or row k 0
    → v ≡ put_bits (to + 64 * k) hidden (x ∷ []) 8 m → v ≡ put_bits to hidden row (8 * (k + 1)) w
put-bytes-turn to hidden k x row m v w e b d =
    let n : 8 * k + 8 ≡ 8 * (k + 1) = omega arith in
    d ∙ ap (put_bits (to + 64 * k) hidden (x ∷ []) 8) e ∙ put-add to hidden k x 8 row w b (omega arith) ∙ ap (λ (i : ℕ). put_bits to hidden row i w) n

-- the whole steps
pub tapes-loaded : (l : Layout) (n : ℕ) (s : List ℕ) (len : ℕ) (m : List ℕ) (to : ℕ) (k v : List ℕ) → to ≡ tape_at l 0 → k ≡ cleared_tapes l m
    → v ≡ loaded_groups n s len ((n + 7) / 8) to k → v ≡ loaded_tapes l n s len m
unfolding loaded_tapes
tapes-loaded l n s len m to k v e f g = g ∙ ap₂ (λ (x : ℕ) (y : List ℕ). loaded_groups n s len ((n + 7) / 8) x y) e f

pub tapes-cleared : (l : Layout) (m : List ℕ) (to words : ℕ) (v : List ℕ) → to ≡ tape_at l 0 → words ≡ tape_words l → v ≡ cleared to (8 * words) m
    → v ≡ cleared_tapes l m
unfolding cleared_tapes
tapes-cleared l m to words v e d f = f ∙ ap₂ (λ (x y : ℕ). cleared x (8 * y) m) e d

pub rows-stored : (l : Layout) (n : ℕ) (m : List ℕ) (len : ℕ) (rows : List ℕ) (from : ℕ) (v : List ℕ) → from ≡ tape_at l (l.inputs + l.ands)
    → v ≡ stored_groups n m from len ((n + 7) / 8) rows → v ≡ stored_rows l n m len rows
unfolding stored_rows
rows-stored l n m len rows from v e d =
    let q : l.inputs + l.ands ≡ broadcast_word l 0 = omega arith in
    d ∙ ap (λ (k : ℕ). stored_groups n m k len ((n + 7) / 8) rows) (e ∙ ap (tape_at l) q)

pub party-put : (l : Layout) (q p to hidden : ℕ) (row : List ℕ) (count : ℕ) (m v : List ℕ) → to ≡ tape_at l q → hidden ≡ place 64 p
    → v ≡ put_bits to hidden row count m → v ≡ put_party l q p row count m
unfolding put_party
party-put l q p to hidden row count m v e d f = f ∙ ap₂ (λ (x y : ℕ). put_bits x y row count m) e d

-- word q of the loaded tapes of n parties is the column of bits q of their rows, where the plane was zero
pub group-word : (n : ℕ) (s : List ℕ) (len to : ℕ) (m : List ℕ) (q : ℕ) → n ≤ 64 → q < 8 * len → to + 64 * len ≤ length m
    → ((k : ℕ) → k < 64 * len → get_or m (to + k) 0 ≡ 0)
    → le_at 8 (loaded_groups n s len ((n + 7) / 8) to m) (to + 8 * q) ≡ from_bits n (row_bit s len q)
group-word n s len to m q wide h room clear =
    let groups = (n + 7) / 8 in
    let few : groups ≤ 8 = omega arith in
    let all : n ≤ 8 * groups = omega arith in
    let k : List ℕ = loaded_groups n s len groups to m in
    let f : ℕ → ℕ = group n s len q groups in
    let x = blocks 8 f 8 in
    let small = group-lt n s len q groups in
    let bytes : le_at 8 k (to + 8 * q) ≡ x = le_at-blocks 8 k (to + 8 * q) ∙ blocks-cong 8 (λ b. get_or k (to + 8 * q + b) 0) f 8
    (λ b l.
    let j : to + 8 * q + b ≡ to + (8 * q + b) = omega arith in
    let c : 8 * q + b < 64 * len = omega arith in
    tapes-byte n s len to m groups b q room few l h
    ∙ ap (cond (ltb b groups) (group_byte n s len q b)) (ap (λ (i : ℕ). get_or m i 0) j ∙ clear (8 * q + b) c)) in
    bytes
    ∙ ext-bits 64 x (from_bits n (row_bit s len q)) (blocks-lt 8 f small 8) (lt_of_lt_of_le (from_bits-lt n (row_bit s len q)) (pow_mono wide))
    (λ z l.
    let d : z ≡ 8 * (z / 8) + z % 8 = omega arith in
    let u : z / 8 < 8 = omega arith in
    let v : z % 8 < 8 = omega arith in
    ap (test_bit x) d ∙ blocks-bit 8 f small 8 (z / 8) (z % 8) u v ∙ group-bit n s len q groups z all)

-- a byte that no group's rows reach
pub groups-other : (n : ℕ) (s : List ℕ) (len to : ℕ) (m : List ℕ) (g j : ℕ) → g ≤ 8 → to + 64 * len ≤ j → get_or (loaded_groups n s len g to m) j 0 ≡ get_or m j 0
unfolding loaded_groups loaded_words
groups-other n s len to m zero j few h = refl
groups-other n s len to m (suc g) j few h =
    fill-other (λ q. to + g + 8 * q) _ (loaded_groups n s len g to m) (8 * len) j (λ u l. omega arith) ∙ groups-other n s len to m g j (omega arith) h
