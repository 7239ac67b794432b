-- What stands after the planes: no step on the planes touches it, and of the rows there only the bytes of the rows are read.
-- Assumes nothing.
use mathlib.Core.Path.{◌≡◌, refl, sym, ap, ap₂, ◌∙◌}
use mathlib.Core.Bool.{Bool}
use mathlib.Core.List.{List}
use mathlib.Core.Logic.{inr}
use Prim.Native.Nat.{ℕ, zero, suc, ◌+◌, ◌*◌, ◌/◌, ◌%◌, ◌≤◌, ◌<◌}
use native.Mathlib.Omega.{arith}
use lib.ListN.{length, get_or, take, drop, length-drop, length-set}
use lib.Seq.{sets, ext_get_or, get_or-drop, get_or-set_other, get_or-take}
use Rattle.bits.specs.Bits.{oct, test_bit, from_bits, bit_at}
use Rattle.bits.specs.Bytes.{le_at, le_bytes}
use Rattle.bits.proofs.Numbers.{from_bits-cong}
use Rattle.bits.proofs.Rows.{row_fits}
use Rattle.words.specs.Words.{every, place, chosen}
use Rattle.words.proofs.Fill.{fill-cong, fill-other}
use Rattle.planes.specs.Steps.{tape_words, share_at, tape_at, masked_at, planes_end, rows_at, put_share, put_tape, put_masked, cleared, cleared_tapes, loaded_words, rows_in, loaded_groups, loaded_tapes, loaded_rows, put_bits, put_party}
use Rattle.planes.specs.declared.Layout.{Layout}
use Rattle.planes.proofs.Turning.{group-within, groups-other, rows_left, tapes-length}
use Rattle.planes.proofs.Views.{byte-other, clear-length, word-length}
use Rattle.planes.proofs.Stored.{put_byte, put-length}

-- bits of a part of a string
pub bit_at-drop : (a : ℕ) (s : List ℕ) (k : ℕ) → bit_at (drop a s) k ≡ bit_at s (8 * a + k)
unfolding bit_at
bit_at-drop a s k =
    let p : a + k / 8 ≡ (8 * a + k) / 8 = omega arith in
    let q : k % 8 ≡ (8 * a + k) % 8 = omega arith in
    ap (λ (x : ℕ). test_bit x (k % 8)) (get_or-drop a s (k / 8) 0) ∙ ap₂ (λ (x y : ℕ). test_bit (get_or s x 0) y) p q

pub bit_at-take : (n : ℕ) (s : List ℕ) (k : ℕ) → k < 8 * n → bit_at (take n s) k ≡ bit_at s k
unfolding bit_at
bit_at-take n s k h = ap (λ (x : ℕ). test_bit x (k % 8)) (get_or-take n s (k / 8) 0 (omega arith))

-- a bit after byte a, where no byte changed
pub bit_at-held : (a : ℕ) (s t : List ℕ) → ((j : ℕ) → a ≤ j → get_or s j 0 ≡ get_or t j 0) → (k : ℕ) → bit_at s (8 * a + k) ≡ bit_at (drop a t) k
unfolding bit_at
bit_at-held a s t h k = ap (λ (x : ℕ). test_bit x ((8 * a + k) % 8)) (h ((8 * a + k) / 8) (omega arith)) ∙ sym (bit_at-drop a t k)

-- the parts from place k on of lists of one length with the same bytes there
pub drop-cong : (k : ℕ) (s t : List ℕ) → length s ≡ length t → ((j : ℕ) → k ≤ j → get_or s j 0 ≡ get_or t j 0) → drop k s ≡ drop k t
drop-cong k s t e h =
    ext_get_or 0 (drop k s) (drop k t) (length-drop k s ∙ omega (arith, e) ∙ sym (length-drop k t))
    (λ i l. get_or-drop k s i 0 ∙ h (k + i) (omega arith) ∙ sym (get_or-drop k t i 0))

-- the bits of the rows may be those of another string
pub words-source : (n : ℕ) (s t : List ℕ) (a b len count to : ℕ) (m : List ℕ)
    → ((p q : ℕ) → p < n → q < 8 * count → bit_at s (8 * (a + p * len) + q) ≡ bit_at t (8 * (b + p * len) + q))
    → loaded_words n s a len count to m ≡ loaded_words n t b len count to m
unfolding loaded_words
words-source n s t a b len count to m h =
    fill-cong (λ q. to + 8 * q) _ (λ q. from_bits n (λ p. bit_at t (8 * (b + p * len) + q))) m (8 * count)
    (λ q l. from_bits-cong n _ (λ p. bit_at t (8 * (b + p * len) + q)) (λ p x. h p q x l))

groups-source : (n : ℕ) (s t : List ℕ) (len to : ℕ) (m : List ℕ) → ((k : ℕ) → k < 8 * (n * len) → bit_at s k ≡ bit_at t k)
    → (g : ℕ) → 8 * g ≤ n + 7 → loaded_groups n s len g to m ≡ loaded_groups n t len g to m
unfolding loaded_groups
groups-source n s t len to m h zero few = refl
groups-source n s t len to m h (suc g) few =
    let r : ℕ = rows_in n g in
    let a : ℕ = g * (8 * len) in
    words-source r s t a a len len (to + g) (loaded_groups n s len g to m)
    (λ p q x y. h (8 * (a + p * len) + q) (omega (arith, row_fits r len p x, group-within n g r len (rows_left n g (omega arith)))))
    ∙ ap (loaded_words r t a len len (to + g)) (groups-source n s t len to m h g (omega arith))

tapes-source : (l : Layout) (n : ℕ) (s t : List ℕ) (len : ℕ) (m : List ℕ) → ((k : ℕ) → k < 8 * (n * len) → bit_at s k ≡ bit_at t k)
    → loaded_tapes l n s len m ≡ loaded_tapes l n t len m
unfolding loaded_tapes
tapes-source l n s t len m h = groups-source n s t len (tape_at l 0) (cleared_tapes l m) h ((n + 7) / 8) (omega arith)

put-source : (to hidden : ℕ) (s t m : List ℕ) (c : ℕ) → ((k : ℕ) → k < c → bit_at s k ≡ bit_at t k) → put_bits to hidden s c m ≡ put_bits to hidden t c m
unfolding put_bits
put-source to hidden s t m zero h = refl
put-source to hidden s t m (suc c) h =
    ap₂ (λ (k : List ℕ) (b : Bool). sets k (to + 8 * c) (le_bytes 8 (chosen hidden (every 64 b) (le_at 8 k (to + 8 * c)))))
    (put-source to hidden s t m c (λ k l. h k (omega arith))) (h c (omega arith))

-- a memory of which the planes change
module _ (l : Layout) (m : List ℕ) where
  pub clear-other : (k : ℕ) → planes_end l ≤ k → get_or (cleared_tapes l m) k 0 ≡ get_or m k 0
  unfolding cleared_tapes cleared
  clear-other k h = fill-other (λ j. tape_at l 0 + j) (λ j. 0) m (8 * tape_words l) k (λ u x. omega arith)

  -- the tapes of n parties loaded
  module _ (n : ℕ) (s : List ℕ) (len : ℕ) where
    pub loaded-length : length (loaded_tapes l n s len m) ≡ length m
    unfolding loaded_tapes
    loaded-length = tapes-length n s len (tape_at l 0) (cleared_tapes l m) ((n + 7) / 8) ∙ clear-length l m

    pub loaded-other : n ≤ 64 → 8 * len ≤ tape_words l → (k : ℕ) → planes_end l ≤ k → get_or (loaded_tapes l n s len m) k 0 ≡ get_or m k 0
    unfolding loaded_tapes
    loaded-other wide low k h =
        groups-other n s len (tape_at l 0) (cleared_tapes l m) ((n + 7) / 8) k (omega arith) (omega arith) ∙ clear-other k h

    pub loaded-held : n ≤ 64 → 8 * len ≤ tape_words l → drop (planes_end l) (loaded_tapes l n s len m) ≡ drop (planes_end l) m
    loaded-held wide low = drop-cong (planes_end l) (loaded_tapes l n s len m) m loaded-length (loaded-other wide low)

  -- a party's row put
  module _ (q p : ℕ) (row : List ℕ) (count : ℕ) where
    pub party-length : length (put_party l q p row count m) ≡ length m
    unfolding put_party
    party-length = put-length (tape_at l q) (place 64 p) row m count

    pub party-other : q + count ≤ tape_words l → (k : ℕ) → planes_end l ≤ k → get_or (put_party l q p row count m) k 0 ≡ get_or m k 0
    unfolding put_party
    party-other few k h = put_byte (tape_at l q) (place 64 p) row m count k (omega arith)

    pub party-held : q + count ≤ tape_words l → drop (planes_end l) (put_party l q p row count m) ≡ drop (planes_end l) m
    party-held few = drop-cong (planes_end l) (put_party l q p row count m) m party-length (party-other few)

  -- shares put
  module _ (w x : ℕ) where
    pub share-length : length (put_share w x m) ≡ length m
    unfolding put_share
    share-length = word-length m (share_at w) x

    pub share_other : w < l.wires → (k : ℕ) → planes_end l ≤ k → get_or (put_share w x m) k 0 ≡ get_or m k 0
    unfolding put_share
    share_other h k a = byte-other m (share_at w) x k (inr (omega arith))

    pub share-held : w < l.wires → drop (planes_end l) (put_share w x m) ≡ drop (planes_end l) m
    share-held h = drop-cong (planes_end l) (put_share w x m) m share-length (share_other h)

  -- a tape word put
  module _ (q x : ℕ) where
    pub tape-length : length (put_tape l q x m) ≡ length m
    unfolding put_tape
    tape-length = word-length m (tape_at l q) x

    pub tape-other : q < tape_words l → (k : ℕ) → planes_end l ≤ k → get_or (put_tape l q x m) k 0 ≡ get_or m k 0
    unfolding put_tape
    tape-other h k a = byte-other m (tape_at l q) x k (inr (omega arith))

    pub tape-held : q < tape_words l → drop (planes_end l) (put_tape l q x m) ≡ drop (planes_end l) m
    tape-held h = drop-cong (planes_end l) (put_tape l q x m) m tape-length (tape-other h)

  -- a masked value put
  module _ (w x : ℕ) where
    pub masked-length : length (put_masked l w x m) ≡ length m
    unfolding put_masked
    masked-length = length-set m (masked_at l w) x

    pub masked-other : w < l.wires → (k : ℕ) → planes_end l ≤ k → get_or (put_masked l w x m) k 0 ≡ get_or m k 0
    unfolding put_masked
    masked-other h k a = get_or-set_other m (masked_at l w) k x 0 (omega arith)

    pub masked-held : w < l.wires → drop (planes_end l) (put_masked l w x m) ≡ drop (planes_end l) m
    masked-held h = drop-cong (planes_end l) (put_masked l w x m) m masked-length (masked-other h)

  -- of the memory only the n rows are read
  pub rows-loaded : (n len : ℕ) → loaded_rows l n len m ≡ loaded_tapes l n (take (n * len) (drop (rows_at l) m)) len m
  unfolding loaded_rows
  rows-loaded n len =
      tapes-source l n (drop (rows_at l) m) (take (n * len) (drop (rows_at l) m)) len m (λ k h. sym (bit_at-take (n * len) (drop (rows_at l) m) k h))

  -- of the memory only the bytes of the count bits are read
  pub party-part : (q p a count : ℕ) → put_party l q p (drop a m) count m ≡ put_party l q p (take (oct count) (drop a m)) count m
  unfolding put_party
  party-part q p a count =
      put-source (tape_at l q) (place 64 p) (drop a m) (take (oct count) (drop a m)) m count
      (λ k h. sym (bit_at-take (oct count) (drop a m) k (omega arith)))
