-- The planes after each step: what is put in one of them stands there, and the others are as they were; the tape words are the columns
-- of the rows' bits.
-- Assumes nothing.
use mathlib.Core.Path.{◌≡◌, sym, ap, ap₂, ◌∙◌}
use mathlib.Core.Bool.{cond}
use mathlib.Core.List.{List}
use mathlib.Core.Logic.{◌⊎◌, inl, inr, ⊎_elim}
use Prim.Native.Nat.{ℕ, zero, suc, ◌+◌, ◌*◌, ◌/◌, ◌^◌, ◌≤◌, ◌<◌}
use native.Mathlib.Nat.{mod-eq_of_lt}
use native.Mathlib.Omega.{arith}
use borrow.Author.Tests.{eq-eqb, ne_eqb}
use lib.Dec.{eqb}
use lib.ListN.{length, get_or, set}
use lib.Seq.{get_or-set_other, get_or-set_same, sets, length-sets}
use Rattle.bits.specs.Bits.{from_bits, bit_at}
use Rattle.bits.specs.Bytes.{le_at, le_bytes, row_of}
use Rattle.bits.proofs.Little.{get_or-sets-other, le_at-cong, le_at-last, le_at-zero, le_at-sets, le_at-sets-other, length-le_bytes}
use Rattle.bits.proofs.Numbers.{eq-or-ne, from_bits-cong, lt-or-le}
use Rattle.bits.proofs.Rows.{bit_at-row, row_fits}
use Rattle.words.proofs.Fill.{fill-at, fill-length}
use Rattle.planes.specs.Steps.{tape_words, share_at, tape_at, masked_at, planes_end, share, tape, masked, put_share, put_tape, put_masked, cleared, cleared_tapes, loaded_groups, loaded_tapes}
use Rattle.planes.specs.declared.Layout.{Layout}
use Rattle.planes.proofs.Turning.{group-word, groups-other}

-- a word put at place k
module _ (m : List ℕ) (k x : ℕ) where
  -- the memory is as long as before
  pub word-length : length (sets m k (le_bytes 8 x)) ≡ length m
  word-length = length-sets m k (le_bytes 8 x)

  -- the word itself
  pub word_same : k + 8 ≤ length m → x < 2 ^ 64 → le_at 8 (sets m k (le_bytes 8 x)) k ≡ x
  word_same h l = le_at-sets 8 m k x h ∙ mod-eq_of_lt l

  -- a word elsewhere
  pub word-other : (j : ℕ) → (j + 8 ≤ k) ⊎ (k + 8 ≤ j) → le_at 8 (sets m k (le_bytes 8 x)) j ≡ le_at 8 m j
  word-other j h =
      let l = length-le_bytes 8 x in le_at-sets-other 8 (le_bytes 8 x) m k j (⊎_elim (λ q. inl q) (λ q. inr (omega arith)) h)

  -- a byte elsewhere
  pub byte-other : (j : ℕ) → (j < k) ⊎ (k + 8 ≤ j) → get_or (sets m k (le_bytes 8 x)) j 0 ≡ get_or m j 0
  byte-other j h =
      let l = length-le_bytes 8 x in get_or-sets-other 0 (le_bytes 8 x) m k j (⊎_elim (λ q. inl q) (λ q. inr (omega arith)) h)

-- a byte put outside a word
word_byte : (m : List ℕ) (k y j : ℕ) → (k < j) ⊎ (j + 8 ≤ k) → le_at 8 (set m k y) j ≡ le_at 8 m j
word_byte m k y j h = le_at-cong 8 (set m k y) m j j (λ i l. get_or-set_other m k (j + i) y 0 (⊎_elim (λ q. omega arith) (λ q. omega arith) h))

-- bytes that are zero
le_at-none : (n : ℕ) (s : List ℕ) (k : ℕ) → ((i : ℕ) → i < n → get_or s (k + i) 0 ≡ 0) → le_at n s k ≡ 0
le_at-none zero s k h = le_at-zero s k
le_at-none (suc n) s k h =
    le_at-last n s k ∙ ap₂ (λ (x y : ℕ). x + y * 256 ^ n) (le_at-none n s k (λ i l. h i (omega arith))) (h n (omega arith)) ∙ omega arith

-- clearing keeps the length
pub clear-length : (l : Layout) (m : List ℕ) → length (cleared_tapes l m) ≡ length m
unfolding cleared_tapes cleared
clear-length l m = fill-length _ _ m (8 * tape_words l)

-- the planes of a memory that holds them
module _ (l : Layout) (m : List ℕ) (room : planes_end l ≤ length m) where
  -- shares put
  module _ (w x : ℕ) (hw : w < l.wires) where
    pub share-share : x < 2 ^ 64 → (v : ℕ) → share (put_share w x m) v ≡ cond (eqb v w) x (share m v)
    unfolding share put_share
    share-share h v =
        ⊎_elim
        (λ e. rw (eq-eqb v w e, e) (word_same m (share_at w) x (omega arith) h))
        (λ e. rw (ne_eqb v w e) (word-other m (share_at w) x (share_at v) (⊎_elim (λ q. inl (omega arith)) (λ q. inr (omega arith)) (lt-or-le v w))))
        (eq-or-ne v w)

    pub tape-share : (q : ℕ) → tape l (put_share w x m) q ≡ tape l m q
    unfolding tape put_share
    tape-share q = word-other m (share_at w) x (tape_at l q) (inr (omega arith))

    pub masked-share : (v : ℕ) → masked l (put_share w x m) v ≡ masked l m v
    unfolding masked put_share
    masked-share v = byte-other m (share_at w) x (masked_at l v) (inr (omega arith))

  -- a tape word put
  module _ (q x : ℕ) (hq : q < tape_words l) where
    pub share-tape : (v : ℕ) → v < l.wires → share (put_tape l q x m) v ≡ share m v
    unfolding share put_tape
    share-tape v h = word-other m (tape_at l q) x (share_at v) (inl (omega arith))

    pub tape-tape : x < 2 ^ 64 → (r : ℕ) → tape l (put_tape l q x m) r ≡ cond (eqb r q) x (tape l m r)
    unfolding tape put_tape
    tape-tape h r =
        ⊎_elim
        (λ e. rw (eq-eqb r q e, e) (word_same m (tape_at l q) x (omega arith) h))
        (λ e. rw (ne_eqb r q e) (word-other m (tape_at l q) x (tape_at l r) (⊎_elim (λ d. inl (omega arith)) (λ d. inr (omega arith)) (lt-or-le r q))))
        (eq-or-ne r q)

    pub masked-tape : (v : ℕ) → masked l (put_tape l q x m) v ≡ masked l m v
    unfolding masked put_tape
    masked-tape v = byte-other m (tape_at l q) x (masked_at l v) (inr (omega arith))

  -- a masked value put
  module _ (w x : ℕ) (hw : w < l.wires) where
    pub share-masked : (v : ℕ) → v < l.wires → share (put_masked l w x m) v ≡ share m v
    unfolding share put_masked
    share-masked v h = word_byte m (masked_at l w) x (share_at v) (inr (omega arith))

    pub tape-masked : (q : ℕ) → q < tape_words l → tape l (put_masked l w x m) q ≡ tape l m q
    unfolding tape put_masked
    tape-masked q h = word_byte m (masked_at l w) x (tape_at l q) (inr (omega arith))

    pub masked-masked : (v : ℕ) → masked l (put_masked l w x m) v ≡ cond (eqb v w) x (masked l m v)
    unfolding masked put_masked
    masked-masked v =
        ⊎_elim
        (λ e. rw (eq-eqb v w e, e) (get_or-set_same m (masked_at l w) x 0 (omega arith)))
        (λ e. rw (ne_eqb v w e) (get_or-set_other m (masked_at l w) (masked_at l v) x 0 (omega arith)))
        (eq-or-ne v w)

  -- the tapes of n parties loaded: tape word q has bit q of each row
  module _ (n : ℕ) (s : List ℕ) (len : ℕ) (wide : n ≤ 64) (fits : n * len ≤ length s) (low : 8 * len ≤ tape_words l) where
    clear-all : (k : ℕ) → k < 8 * tape_words l → get_or (cleared_tapes l m) (tape_at l 0 + k) 0 ≡ 0
    unfolding cleared_tapes cleared
    clear-all k h = fill-at (λ j. tape_at l 0 + j) (λ j. 0) m (8 * tape_words l) k h (omega arith) (λ u a b. omega arith)

    pub tape-word : (q : ℕ) → q < 8 * len → tape l (loaded_tapes l n s len m) q ≡ from_bits n (λ i. bit_at (row_of s len i) q)
    unfolding tape loaded_tapes
    tape-word q h =
        let e : tape_at l q ≡ tape_at l 0 + 8 * q = omega arith in
        ap (le_at 8 _) e
        ∙ group-word n s len (tape_at l 0) (cleared_tapes l m) q wide h (omega (arith, clear-length l m)) (λ k d. clear-all k (omega arith))
        ∙ from_bits-cong n _ (λ i. bit_at (row_of s len i) q) (λ i k. sym (bit_at-row s len i q (omega (arith, row_fits n len i k)) h))

    -- and the words beyond the rows are zero
    pub tape-beyond : (q : ℕ) → 8 * len ≤ q → q < tape_words l → tape l (loaded_tapes l n s len m) q ≡ 0
    unfolding tape loaded_tapes
    tape-beyond q h k =
        let zero-byte : (i : ℕ) → i < 8 → get_or (loaded_groups n s len ((n + 7) / 8) (tape_at l 0) (cleared_tapes l m)) (tape_at l q + i) 0 ≡ 0 =
        λ i u.
        let e : tape_at l q + i ≡ tape_at l 0 + (8 * q + i) = omega arith in
        groups-other n s len (tape_at l 0) (cleared_tapes l m) ((n + 7) / 8) (tape_at l q + i) (omega arith) (omega arith)
        ∙ ap (λ (x : ℕ). get_or (cleared_tapes l m) x 0) e ∙ clear-all (8 * q + i) (omega arith) in
        le_at-none 8 _ (tape_at l q) zero-byte
