-- The rows that are stored have the bits of the words, and the words in which a row is put have its bits at one place.
-- Assumes nothing.
use mathlib.Core.Path.{◌≡◌, refl, sym, ap, ◌∙◌}
use mathlib.Core.Bool.{Bool, cond}
use mathlib.Core.List.{List}
use mathlib.Core.Logic.{◌⊎◌, ⊎_elim, ◌≢◌, inl, inr}
use Prim.Native.Nat.{ℕ, zero, suc, ◌+◌, ◌*◌, ◌/◌, ◌%◌, ◌^◌, ◌≤◌, ◌<◌}
use native.Mathlib.Nat.{add-mul, lt_of_lt_of_le, eq-or-lt_of_le, le_of_suc-le-suc, mul_assoc, mul-le-mul_right, suc-mul}
use native.Mathlib.Omega.{arith}
use lib.Dec.{eqb}
use lib.ListN.{length, get_or}
use Rattle.bits.specs.Bits.{test_bit, from_bits, bit_at}
use Rattle.bits.specs.Bytes.{le_at}
use Rattle.bits.proofs.Little.{le_at-lt}
use Rattle.bits.proofs.Numbers.{lt-or-le, test_bit-from_bits}
use Rattle.bits.proofs.Packing.{bit_at-byte}
use Rattle.words.specs.Words.{every, place, chosen}
use Rattle.words.specs.Steps.{at}
use Rattle.words.proofs.Columns.{chosen-lt, every-lt, word-put}
use Rattle.words.proofs.Fill.{fill-at, fill-length, fill-other}
use Rattle.words.proofs.Turns.{blocks-bit, le_at-blocks}
use Rattle.planes.specs.Steps.{tape_words, tape_at, broadcast_word, planes_end, tape, rows_in, stored_words, stored_groups, stored_rows, put_bits, put_party}
use Rattle.planes.specs.declared.Layout.{Layout}
use Rattle.planes.proofs.Turning.{group-within, rows_few, rows_in_lem, rows_left}
use Rattle.planes.proofs.Views.{byte-other, word-length, word_same, word-other}

-- row p's bytes end before row u's, where p is before u
row_before : (len p u : ℕ) → p < u → p * len + len ≤ u * len
row_before len p u h = omega (arith, mul-le-mul_right len h, suc-mul p len)

-- bytes at different places of any rows are different
apart : (len p u k j : ℕ) → k < len → j < len → k ≢ j → k + p * len ≢ j + u * len
apart len p u k j hk hj n e =
    ⊎_elim
    (λ l. absurd (omega (arith, row_before len p u l)))
    (λ l. ⊎_elim (λ q. n (omega (arith, ap (λ (x : ℕ). x * len) q))) (λ q. absurd (omega (arith, row_before len u p q))) (eq-or-lt_of_le l))
    (lt-or-le p u)

-- a group of n rows of len bytes from byte a on
module _ (n : ℕ) (m : List ℕ) (from a len : ℕ) (rows : List ℕ) where
  stored-length : (c : ℕ) → length (stored_words n m from c a len rows) ≡ length rows
  unfolding stored_words
  stored-length zero = refl
  stored-length (suc c) = fill-length _ _ (stored_words n m from c a len rows) n ∙ stored-length c

  -- a byte outside the group
  pub stored_other : (c j : ℕ) → c ≤ len → ((k p : ℕ) → k < len → p < n → j ≢ a + k + p * len) → get_or (stored_words n m from c a len rows) j 0 ≡ get_or rows j 0
  unfolding stored_words
  stored_other zero j h d = refl
  stored_other (suc c) j h d =
      fill-other (λ p. a + c + p * len) _ (stored_words n m from c a len rows) n j (λ p l. d c p (omega arith) l) ∙ stored_other c j (omega arith) d

  -- byte k of row p
  pub stored_at : (c k p : ℕ) → c ≤ len → k < c → p < n → a + n * len ≤ length rows
      → get_or (stored_words n m from c a len rows) (a + k + p * len) 0 ≡ from_bits 8 (λ t. test_bit (at m (from + 8 * (8 * k + t))) p)
  unfolding stored_words
  stored_at zero k p h l hp room = absurd (omega arith)
  stored_at (suc c) k p h l hp room =
      let r : List ℕ = stored_words n m from c a len rows in
      let f : ℕ → ℕ = λ u. from_bits 8 (λ t. test_bit (at m (from + 8 * (8 * c + t))) u) in
      ⊎_elim
      (λ e.
      rw e
      (fill-at (λ u. a + c + u * len) f r n p hp (omega (arith, stored-length c, row_before len p n hp))
      (λ u x y q. omega (arith, row_before len p u x))))
      (λ lt.
      fill-other (λ u. a + c + u * len) f r n (a + k + p * len) (λ u x q. apart len p u k c (omega arith) (omega arith) (omega arith) (omega arith))
      ∙ stored_at c k p (omega arith) lt hp room)
      (eq-or-lt_of_le (le_of_suc-le-suc l))

-- the groups of rows of n parties
module _ (n : ℕ) (m : List ℕ) (from len : ℕ) (rows : List ℕ) (room : n * len ≤ length rows) where
  groups-length : (g : ℕ) → length (stored_groups n m from len g rows) ≡ length rows
  unfolding stored_groups
  groups-length zero = refl
  groups-length (suc g) = stored-length (rows_in n g) m (from + g) (g * (8 * len)) len (stored_groups n m from len g rows) len ∙ groups-length g

  -- byte k of row p of group b
  groups-at : (g b k p : ℕ) → b < g → 8 * g ≤ n + 7 → k < len → p < rows_in n b
      → get_or (stored_groups n m from len g rows) (b * (8 * len) + k + p * len) 0 ≡ from_bits 8 (λ t. test_bit (at m (from + b + 8 * (8 * k + t))) p)
  unfolding stored_groups
  groups-at zero b k p l few hk hp = absurd (omega arith)
  groups-at (suc g) b k p l few hk hp =
      let r : List ℕ = stored_groups n m from len g rows in
      let c : ℕ = rows_in n g in
      ⊎_elim
      (λ e.
      rw e
      (stored_at c m (from + g) (g * (8 * len)) len r len k p (omega arith) hk (rw e at hp)
      (omega (arith, groups-length g, group-within n g c len (rows_left n g (omega arith))))))
      (λ lt.
      stored_other c m (from + g) (g * (8 * len)) len r len (b * (8 * len) + k + p * len) (omega arith)
      (λ j u x y q. omega (arith, row_before (8 * len) b g lt, row_before len p 8 (lt_of_lt_of_le hp (rows_few n b))))
      ∙ groups-at g b k p lt (omega arith) hk hp)
      (eq-or-lt_of_le (le_of_suc-le-suc l))

  -- bit t of row i is bit i of word t
  pub stored-bit : ((j : ℕ) → get_or m j 0 < 256) → n ≤ 64 → (i t : ℕ) → i < n → t < 8 * len
      → bit_at (stored_groups n m from len ((n + 7) / 8) rows) (8 * (i * len) + t) ≡ test_bit (le_at 8 m (from + 8 * t)) i
  stored-bit small wide i t hi ht =
      let b : ℕ = i / 8 in
      let p : ℕ = i % 8 in
      let k : ℕ = t / 8 in
      let z : ℕ = t % 8 in
      let v : List ℕ = stored_groups n m from len ((n + 7) / 8) rows in
      let f : ℕ → ℕ = λ j. get_or m (from + 8 * t + j) 0 in
      let d : i ≡ b * 8 + p = omega arith in
      let row : b * (8 * len) + p * len ≡ i * len =
      sym (ap (λ (x : ℕ). x * len) d ∙ add-mul (b * 8) p len ∙ ap (λ (x : ℕ). x + p * len) (mul_assoc b 8 len)) in
      let place : 8 * (i * len) + t ≡ 8 * (b * (8 * len) + k + p * len) + z = omega (arith, row) in
      let byte : from + b + 8 * (8 * k + z) ≡ from + 8 * t + b = omega arith in
      let bit : 8 * b + p ≡ i = omega arith in
      ap (bit_at v) place
      ∙ bit_at-byte v (b * (8 * len) + k + p * len) z (omega arith)
      ∙ ap (λ (x : ℕ). test_bit x z) (groups-at ((n + 7) / 8) b k p (omega arith) (omega arith) (omega arith) (rows_in_lem n b p (omega arith) (omega arith)))
      ∙ test_bit-from_bits 8 (λ u. test_bit (at m (from + b + 8 * (8 * k + u))) p) z (omega arith)
      ∙ ap (λ (x : ℕ). test_bit (at m x) p) byte
      ∙ sym (ap (test_bit (le_at 8 m (from + 8 * t))) (sym bit) ∙ ap (λ (x : ℕ). test_bit x (8 * b + p)) (le_at-blocks 8 m (from + 8 * t))
      ∙ blocks-bit 8 f (λ j. small (from + 8 * t + j)) 8 b p (omega arith) (omega arith))

-- the rows of the broadcasts: bit t of row i is party i's bit of broadcast t
pub row-bit : (l : Layout) (n : ℕ) (m : List ℕ) (len : ℕ) (rows : List ℕ) → n * len ≤ length rows → ((j : ℕ) → get_or m j 0 < 256) → n ≤ 64
    → (i t : ℕ) → i < n → t < 8 * len → bit_at (stored_rows l n m len rows) (8 * (i * len) + t) ≡ test_bit (tape l m (broadcast_word l t)) i
unfolding stored_rows tape
row-bit l n m len rows room small wide i t hi ht =
    let e : tape_at l (broadcast_word l 0) + 8 * t ≡ tape_at l (broadcast_word l t) = omega arith in
    stored-bit n m (tape_at l (broadcast_word l 0)) len rows room small wide i t hi ht ∙ ap (λ (x : ℕ). test_bit (le_at 8 m x) i) e

-- a row put at the places of hidden
module _ (to hidden : ℕ) (row m : List ℕ) where
  pub put-length : (c : ℕ) → length (put_bits to hidden row c m) ≡ length m
  unfolding put_bits
  put-length zero = refl
  put-length (suc c) = word-length (put_bits to hidden row c m) (to + 8 * c) _ ∙ put-length c

  -- a byte after the words
  pub put_byte : (c j : ℕ) → to + 8 * c ≤ j → get_or (put_bits to hidden row c m) j 0 ≡ get_or m j 0
  unfolding put_bits
  put_byte zero j h = refl
  put_byte (suc c) j h = byte-other (put_bits to hidden row c m) (to + 8 * c) _ j (inr (omega arith)) ∙ put_byte c j (omega arith)

-- in a memory of bytes
module _ (to hidden : ℕ) (row m : List ℕ) (small : (j : ℕ) → get_or m j 0 < 256) where
  -- a word elsewhere
  pub put_other : (c j : ℕ) → (j + 8 ≤ to) ⊎ (to + 8 * c ≤ j) → le_at 8 (put_bits to hidden row c m) j ≡ le_at 8 m j
  unfolding put_bits
  put_other zero j h = refl
  put_other (suc c) j h =
      word-other (put_bits to hidden row c m) (to + 8 * c) _ j (⊎_elim (λ q. inl (omega arith)) (λ q. inr (omega arith)) h)
      ∙ put_other c j (⊎_elim (λ q. inl q) (λ q. inr (omega arith)) h)

  -- word t has the row's bit t at those places
  pub put_word : (c t : ℕ) → t < c → to + 8 * c ≤ length m
      → le_at 8 (put_bits to hidden row c m) (to + 8 * t) ≡ chosen hidden (every 64 (bit_at row t)) (le_at 8 m (to + 8 * t))
  unfolding put_bits
  put_word zero t l room = absurd (omega arith)
  put_word (suc c) t l room =
      let k : List ℕ = put_bits to hidden row c m in
      let old : le_at 8 k (to + 8 * c) ≡ le_at 8 m (to + 8 * c) = put_other c (to + 8 * c) (inr (omega arith)) in
      let x : ℕ = chosen hidden (every 64 (bit_at row c)) (le_at 8 k (to + 8 * c)) in
      let low : x < 2 ^ 64 = chosen-lt 64 hidden (every 64 (bit_at row c)) (le_at 8 k (to + 8 * c)) (every-lt 64 (bit_at row c))
      (rw old (le_at-lt 8 m (to + 8 * c) small)) in
      ⊎_elim
      (λ e. rw e (word_same k (to + 8 * c) x (omega (arith, put-length to hidden row m c)) low ∙ ap (chosen hidden (every 64 (bit_at row c))) old))
      (λ lt. word-other k (to + 8 * c) x (to + 8 * t) (inl (omega arith)) ∙ put_word c t lt (omega arith))
      (eq-or-lt_of_le (le_of_suc-le-suc l))

-- party p's bits of the words from tape word q on are those of the row
pub party-word : (l : Layout) (q p : ℕ) (row : List ℕ) (count : ℕ) (m : List ℕ) → ((j : ℕ) → get_or m j 0 < 256) → planes_end l ≤ length m → q + count ≤ tape_words l
    → (t : ℕ) → t < count → tape l (put_party l q p row count m) (q + t) ≡ chosen (place 64 p) (every 64 (bit_at row t)) (tape l m (q + t))
unfolding put_party tape
party-word l q p row count m small room few t h =
    let e : tape_at l (q + t) ≡ tape_at l q + 8 * t = omega arith in
    ap (le_at 8 (put_bits (tape_at l q) (place 64 p) row count m)) e
    ∙ put_word (tape_at l q) (place 64 p) row m small count t h (omega arith)
    ∙ ap (λ (x : ℕ). chosen (place 64 p) (every 64 (bit_at row t)) (le_at 8 m x)) (sym e)

-- so they are those of the columns of n parties
pub party-column : (l : Layout) (q p : ℕ) (row : List ℕ) (count : ℕ) (m : List ℕ) → ((j : ℕ) → get_or m j 0 < 256) → planes_end l ≤ length m → q + count ≤ tape_words l
    → (n t : ℕ) (f : ℕ → Bool) → n ≤ 64 → p < n → t < count → tape l m (q + t) ≡ from_bits n f
    → tape l (put_party l q p row count m) (q + t) ≡ from_bits n (λ i. cond (eqb i p) (bit_at row t) (f i))
party-column l q p row count m small room few n t f wide hp h e =
    party-word l q p row count m small room few t h ∙ ap (chosen (place 64 p) (every 64 (bit_at row t))) e ∙ word-put 64 n p (bit_at row t) f wide hp
