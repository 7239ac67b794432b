-- Rows and words of one memory: one turn of each loop, and the whole steps.
-- Assumes nothing.
use mathlib.Core.Path.{◌≡◌, refl, sym, ap, ap₂, ◌∙◌}
use mathlib.Core.List.{List, [], ◌∷◌}
use mathlib.Core.Logic.{⊎_elim}
use Prim.Native.Nat.{ℕ, zero, suc, ◌+◌, ◌-◌, ◌*◌, ◌/◌, ◌%◌, ◌≤◌, ◌<◌}
use native.Mathlib.Omega.{arith}
use lib.ListN.{length, get_or, take, drop, length-drop, get_or-eq_default}
use lib.Seq.{sets, get_or-drop, get_or-take, length-take-le}
use Rattle.bits.specs.Bits.{bit_val, odd, test_bit, from_bits, bit_at}
use Rattle.bits.specs.Bytes.{le_at, le_bytes, row_of}
use Rattle.bits.proofs.Numbers.{from_bits-cong, lt-or-le, test_bit-from_bits}
use Rattle.bits.proofs.Packing.{bit_at-byte}
use Rattle.bits.proofs.Rows.{row-get_or, row-length}
use Rattle.words.specs.Words.{every, place, chosen}
use Rattle.words.specs.Steps.{at, fill, transposed, gathered, scattered, turned}
use Rattle.blocks.specs.Steps.{row_words, transposed_rows, stored_column}
use Rattle.words.proofs.Fill.{fill-cong, fill-join, fill-read}
use Rattle.words.proofs.Turns.{blocks-bit, le_at-blocks, place-within, turned-word}
use Rattle.blocks.proofs.Columns.{column-turned, row-bits, row-none}
use Rattle.planes.specs.Steps.{tape_at, broadcast_word, corrections_at, rows_at, tape, cleared_tapes, loaded_words, rows_in, loaded_groups, loaded_rows, stored_words, stored_block, put_bits, put_party}
use Rattle.planes.specs.declared.Layout.{Layout}
use Rattle.planes.proofs.Turning.{groups-other, load-turn, party-put, put-bytes-turn, put-turn, store-more, store-turn, tapes-loaded, tapes-turn}
use Rattle.planes.proofs.Views.{clear-length}
use Rattle.planes.proofs.Stored.{put_byte, stored_at, stored_other}
use Rattle.planes.proofs.Held.{bit_at-held, clear-other, drop-cong, words-source}

-- the bytes that are turned may be those of another memory, from another place on
turned-source : (n r : ℕ) (s t : List ℕ) (j j' step k stride : ℕ) (m : List ℕ) → ((p : ℕ) → p < n → at s (j + p * step) ≡ at t (j' + p * step))
    → turned n r s j step k stride m ≡ turned n r t j' step k stride m
unfolding turned
turned-source n r s t j j' step k stride m h =
    fill-cong (λ i. k + i * stride) _ (λ i. from_bits n (λ p. test_bit (at t (j' + p * step)) i)) m r
    (λ i l. from_bits-cong n _ (λ p. test_bit (at t (j' + p * step)) i) (λ p q. ap (λ (x : ℕ). test_bit x i) (h p q)))

-- the memory from byte a on
abbrev rest : ℕ → List ℕ → List ℕ
rest a m = take (length m - a) (drop a m)

-- n rows of len bytes, from byte a of the memory on, handed back as one part of it
module _ (n len a : ℕ) (m rows : List ℕ) (room : a + n * len ≤ length m) (part : rows ≡ row_of (rest a m) (n * len) 0) where
  rows_inside : 0 * (n * len) + n * len ≤ length (rest a m)
  rows_inside = omega (arith, length-take-le (length m - a) (drop a m) (omega (arith, length-drop a m)))

  pub rows-length : length rows ≡ n * len
  rows-length = ap length part ∙ row-length (rest a m) (n * len) 0 rows_inside

  rows-byte : (j : ℕ) → j < n * len → at rows j ≡ at m (a + j)
  rows-byte j l =
      let first : 0 * (n * len) + j ≡ j = omega arith in
      ap (λ (s : List ℕ). at s j) part ∙ row-get_or (rest a m) (n * len) 0 j rows_inside l ∙ ap (at (rest a m)) first
      ∙ get_or-take (length m - a) (drop a m) j 0 (omega arith) ∙ get_or-drop a m j 0

  -- byte k of each of them, gathered, transposed and stored
  pub rows-turned : (k to x y : ℕ) (v : List ℕ) → n ≤ 8 → k < len → x ≡ gathered n rows k len → y ≡ transposed x → v ≡ scattered 8 y to 8 m
      → v ≡ turned n 8 m (a + k) len to 8 m
  rows-turned k to x y v few l g t d =
      turned-word n 8 rows m v k len to 8 x y few (omega arith) g t d
      ∙ turned-source n 8 rows m k (a + k) len to 8 m
      (λ p q.
      let place : a + (k + p * len) ≡ a + k + p * len = omega arith in
      rows-byte (k + p * len) (omega (arith, place-within p n len q)) ∙ ap (at m) place)

  rows-small : ((j : ℕ) → get_or m j 0 < 256) → (j : ℕ) → get_or rows j 0 < 256
  rows-small h j =
      ⊎_elim
      (λ l. rw (rows-byte j l) (h (a + j)))
      (λ l.
      let past : length rows ≤ j = omega (arith, rows-length) in
      let none : get_or rows j 0 ≡ 0 = get_or-eq_default rows 0 past in
      omega arith)
      (lt-or-le j (n * len))

  -- byte k + b of each of them, as a column of 8 bytes of each, transposed
  pub rows-column : (small : (j : ℕ) → get_or m j 0 < 256) (k to b : ℕ) (x v w : List ℕ) → n ≤ 8 → b < 8 → k + 8 ≤ len
      → w ≡ transposed_rows (row_words n rows k len) → x ≡ loaded_words n m (a + k) len b to m → v ≡ stored_column 8 w b (to + 64 * b) 8 x
      → v ≡ loaded_words n m (a + k) len (b + 1) to m
  rows-column small k to b x v w few hb h e f d =
      load-turn n m m x v (a + k) len to b f
      (column-turned n 8 m x v (row_words n rows k len) w (a + k + b) len (to + 64 * b) 8 b few (omega arith) hb
      (λ p t hp ht.
      let place : a + (k + b + p * len) ≡ a + k + b + p * len = omega arith in
      row-bits n rows k len b p t (rows-small small) few hb hp ht
      ∙ ap (λ (y : ℕ). test_bit y t) (rows-byte (k + b + p * len) (omega (arith, place-within p n len hp)) ∙ ap (at m) place))
      (λ p t hp. row-none n rows k len (8 * b + t) p hp) e d)

-- one byte more of each row: the rows stand after the words
pub load-within-turn : (n : ℕ) (w m v : List ℕ) (a len to k : ℕ) → to + 64 * len ≤ a + 7 → k < len → m ≡ loaded_words n w a len k to w
    → v ≡ turned n 8 m (a + k) len (to + 64 * k) 8 m → v ≡ loaded_words n w a len (k + 1) to w
unfolding loaded_words
load-within-turn n w m v a len to k low h e d =
    load-turn n w w m v a len to k e
    (d ∙ turned-source n 8 m w (a + k) (a + k) len (to + 64 * k) 8 m (λ p l. fill-read _ _ w m (8 * k) (a + k + p * len) e (λ u x q. omega arith)))

-- eight bytes more of each row
pub load-block-turn : (n : ℕ) (w m v : List ℕ) (a len to k : ℕ) → to + 64 * len ≤ a + 7 → k + 8 ≤ len → m ≡ loaded_words n w a len k to w
    → v ≡ loaded_words n m (a + k) len 8 (to + 64 * k) m → v ≡ loaded_words n w a len (k + 8) to w
unfolding loaded_words
load-block-turn n w m v a len to k low h e d =
    let pos : ℕ → ℕ = λ q. to + 8 * q in
    let f : ℕ → ℕ = λ q. from_bits n (λ p. bit_at w (8 * (a + p * len) + q)) in
    let pos' : ℕ → ℕ = λ q. to + 64 * k + 8 * q in
    let f' : ℕ → ℕ = λ q. from_bits n (λ p. bit_at m (8 * (a + k + p * len) + q)) in
    let i : 8 * k + 64 ≡ 8 * (k + 8) = omega arith in
    d ∙ ap (fill pos' f' 64) e
    ∙ fill-join pos f pos' f' w (8 * k) 64 (λ z l. omega arith)
    (λ z l. from_bits-cong n (λ p. bit_at m (8 * (a + k + p * len) + z)) (λ p. bit_at w (8 * (a + p * len) + (8 * k + z)))
    (λ p x.
    let u : 8 * (a + k + p * len) + z ≡ 8 * (a + k + z / 8 + p * len) + z % 8 = omega arith in
    let y : 8 * (a + k + z / 8 + p * len) + z % 8 ≡ 8 * (a + p * len) + (8 * k + z) = omega arith in
    ap (bit_at m) u ∙ bit_at-byte m (a + k + z / 8 + p * len) (z % 8) (omega arith)
    ∙ ap (λ (c : ℕ). test_bit c (z % 8)) (fill-read pos f w m (8 * k) (a + k + z / 8 + p * len) e (λ t g q. omega arith))
    ∙ sym (bit_at-byte w (a + k + z / 8 + p * len) (z % 8) (omega arith)) ∙ ap (bit_at w) y))
    ∙ ap (λ (c : ℕ). fill pos f c w) i

pub store-within-turn : (n : ℕ) (w m v : List ℕ) (from a len k : ℕ) → from + 64 * len ≤ a + 7 → k < len → m ≡ stored_words n w from k a len w
    → v ≡ turned 8 n m (from + 64 * k) 8 (a + k) len m → v ≡ stored_words n w from (k + 1) a len w
store-within-turn n w m v from a len k low h e d =
    store-turn n w w m v from a len k e
    (d ∙ turned-source 8 n m w (from + 64 * k) (from + 64 * k) 8 (a + k) len m
    (λ t l. ap (λ (x : List ℕ). at x (from + 64 * k + t * 8)) e
    ∙ stored_other n w from a len w k (from + 64 * k + t * 8) (omega arith) (λ i p x y q. omega arith)))

-- the bytes that are stored may be those of another memory
store-source : (n : ℕ) (s t : List ℕ) (from c a len : ℕ) (r : List ℕ) → ((u : ℕ) → u < 8 * c → at s (from + 8 * u) ≡ at t (from + 8 * u))
    → stored_words n s from c a len r ≡ stored_words n t from c a len r
unfolding stored_words
store-source n s t from zero a len r h = refl
store-source n s t from (suc c) a len r h =
    ap (fill (λ p. a + c + p * len) (λ p. from_bits 8 (λ i. test_bit (at s (from + 8 * (8 * c + i))) p)) n) (store-source n s t from c a len r (λ u l. h u (omega arith)))
    ∙ fill-cong (λ p. a + c + p * len) _ (λ p. from_bits 8 (λ i. test_bit (at t (from + 8 * (8 * c + i))) p)) (stored_words n t from c a len r) n
    (λ p l. from_bits-cong 8 _ (λ i. test_bit (at t (from + 8 * (8 * c + i))) p) (λ i q. ap (λ (x : ℕ). test_bit x p) (h (8 * c + i) (omega arith))))

-- eight bytes more of each row
pub store-block-turn : (n : ℕ) (w m v : List ℕ) (from a len k : ℕ) → from + 64 * len ≤ a + 7 → k + 8 ≤ len → m ≡ stored_words n w from k a len w
    → v ≡ stored_words n m (from + 64 * k) 8 (a + k) len m → v ≡ stored_words n w from (k + 8) a len w
store-block-turn n w m v from a len k low h e d =
    d
    ∙ store-source n m w (from + 64 * k) 8 (a + k) len m
    (λ u l. ap (λ (x : List ℕ). at x (from + 64 * k + 8 * u)) e
    ∙ stored_other n w from a len w k (from + 64 * k + 8 * u) (omega arith) (λ i p x y q. omega arith))
    ∙ store-more n w w m from a len k 8 e

-- one group more: the rows are read from the memory as it then is
pub groups-within-turn : (n r : ℕ) (w m v : List ℕ) (a len to g : ℕ) → to + 64 * len ≤ a → g ≤ 8 → r ≡ rows_in n g → m ≡ loaded_groups n (drop a w) len g to w
    → v ≡ loaded_words r m (a + g * (8 * len)) len len (to + g) m → v ≡ loaded_groups n (drop a w) len (g + 1) to w
groups-within-turn n r w m v a len to g low few h e d =
    let b : ℕ = g * (8 * len) in
    tapes-turn n r (drop a w) m v w len to g h e
    (d ∙ words-source r m (drop a w) (a + b) b len len (to + g) m
    (λ p q x y.
    let i : 8 * (a + b + p * len) + q ≡ 8 * a + (8 * (b + p * len) + q) = omega arith in
    ap (bit_at m) i
    ∙ bit_at-held a m w (λ j u. ap (λ (z : List ℕ). get_or z j 0) e ∙ groups-other n (drop a w) len to w g j few (omega arith)) (8 * (b + p * len) + q)))

-- one bit more of a row of the memory
pub put-within-turn : (to hidden t k old new x a : ℕ) (m v w : List ℕ) → to + 8 * t ≤ a → m ≡ put_bits to hidden (drop a w) t w → old ≡ le_at 8 m (to + 8 * t)
    → k ≡ bit_val (bit_at m (8 * a + t)) → new ≡ every 64 (odd k) → x ≡ chosen hidden new old → v ≡ sets m (to + 8 * t) (le_bytes 8 x)
    → v ≡ put_bits to hidden (drop a w) (t + 1) w
put-within-turn to hidden t k old new x a m v w low e o b n c d =
    put-turn to hidden t k old new x (drop a w) m v w e o
    (b ∙ ap bit_val (bit_at-held a m w (λ j u. ap (λ (z : List ℕ). get_or z j 0) e ∙ put_byte to hidden (drop a w) w t j (omega arith)) t))
    n c d

-- one more byte of the row
pub put-held-turn : (to hidden k x a : ℕ) (m v w : List ℕ) → to + 64 * k ≤ a → m ≡ put_bits to hidden (drop a w) (8 * k) w → x ≡ get_or m (a + k) 0
    → v ≡ put_bits (to + 64 * k) hidden (x ∷ []) 8 m → v ≡ put_bits to hidden (drop a w) (8 * (k + 1)) w
put-held-turn to hidden k x a m v w low e b d =
    put-bytes-turn to hidden k x (drop a w) m v w e
    (b ∙ ap (λ (z : List ℕ). get_or z (a + k) 0) e ∙ put_byte to hidden (drop a w) w (8 * k) (a + k) (omega arith) ∙ sym (get_or-drop a w k 0)) d

-- the whole steps
pub rows-in-words : (l : Layout) (n len to a : ℕ) (m k v : List ℕ) → to ≡ tape_at l 0 → a ≡ rows_at l → k ≡ cleared_tapes l m
    → v ≡ loaded_groups n (drop a k) len ((n + 7) / 8) to k → v ≡ loaded_rows l n len m
unfolding loaded_rows
rows-in-words l n len to a m k v e d f g =
    let s : drop a k ≡ drop (rows_at l) m =
    ap₂ (λ (x : ℕ) (y : List ℕ). drop x y) d f
    ∙ drop-cong (rows_at l) (cleared_tapes l m) m (clear-length l m) (λ j u. clear-other l m j (omega arith)) in
    tapes-loaded l n (drop (rows_at l) m) len m to k v e f (g ∙ ap (λ (x : List ℕ). loaded_groups n x len ((n + 7) / 8) to k) s)

pub corrections-put : (l : Layout) (p to hidden a : ℕ) (m v : List ℕ) → to ≡ tape_at l (l.inputs + l.ands) → hidden ≡ place 64 p → a ≡ corrections_at l
    → v ≡ put_bits to hidden (drop a m) l.ands m → v ≡ put_party l (broadcast_word l 0) p (drop (corrections_at l) m) l.ands m
corrections-put l p to hidden a m v e d f g =
    let q : l.inputs + l.ands ≡ broadcast_word l 0 = omega arith in
    party-put l (broadcast_word l 0) p to hidden (drop (corrections_at l) m) l.ands m v (e ∙ ap (tape_at l) q) d
    (g ∙ ap (λ (x : ℕ). put_bits to hidden (drop x m) l.ands m) f)

pub block_out : (l : Layout) (n g len from a : ℕ) (m v : List ℕ) → from ≡ tape_at l (l.inputs + l.ands) → a ≡ rows_at l
    → v ≡ stored_words n m (from + g) len a len m → v ≡ stored_block l n g len m
unfolding stored_block
block_out l n g len from a m v e d f =
    let q : l.inputs + l.ands ≡ broadcast_word l 0 = omega arith in
    f ∙ ap₂ (λ (x y : ℕ). stored_words n m (x + g) len y len m) (e ∙ ap (tape_at l) q) d

-- a bit of byte b of a word, in a memory of bytes
word-bit : (m : List ℕ) (k b p : ℕ) → ((j : ℕ) → get_or m j 0 < 256) → b < 8 → p < 8 → test_bit (le_at 8 m k) (8 * b + p) ≡ test_bit (at m (k + b)) p
word-bit m k b p small hb hp =
    ap (λ (x : ℕ). test_bit x (8 * b + p)) (le_at-blocks 8 m k) ∙ blocks-bit 8 (λ j. get_or m (k + j) 0) (λ j. small (k + j)) 8 b p hb hp

-- the rows of group g's n parties: bit t of row p is the party's bit of broadcast t
pub block_row : (l : Layout) (n g len : ℕ) (m : List ℕ) → ((j : ℕ) → get_or m j 0 < 256) → n ≤ 8 → g < 8 → rows_at l + n * len ≤ length m
    → (p t : ℕ) → p < n → t < 8 * len
    → bit_at (stored_block l n g len m) (8 * (rows_at l + p * len) + t) ≡ test_bit (tape l m (broadcast_word l t)) (8 * g + p)
unfolding tape stored_block
block_row l n g len m small few hg room p t hp ht =
    let a : ℕ = rows_at l in
    let from : ℕ = tape_at l (broadcast_word l 0) in
    let k : ℕ = t / 8 in
    let z : ℕ = t % 8 in
    let v : List ℕ = stored_words n m (from + g) len a len m in
    let place : 8 * (a + p * len) + t ≡ 8 * (a + k + p * len) + z = omega arith in
    let byte : from + g + 8 * (8 * k + z) ≡ tape_at l (broadcast_word l t) + g = omega arith in
    ap (bit_at v) place
    ∙ bit_at-byte v (a + k + p * len) z (omega arith)
    ∙ ap (λ (x : ℕ). test_bit x z) (stored_at n m (from + g) a len m len k p (omega arith) (omega arith) hp room)
    ∙ test_bit-from_bits 8 (λ u. test_bit (at m (from + g + 8 * (8 * k + u))) p) z (omega arith)
    ∙ ap (λ (x : ℕ). test_bit (at m x) p) byte
    ∙ sym (word-bit m (tape_at l (broadcast_word l t)) g p small hg (omega arith))
