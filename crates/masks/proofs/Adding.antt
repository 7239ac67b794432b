-- Rows XORed into the memory: each step of it, and the bits of the sum.
-- Assumes nothing.
use mathlib.Core.Path.{◌≡◌, refl, sym, ap, ap₂, ◌∙◌}
use mathlib.Core.List.{List}
use Prim.Native.Nat.{ℕ, zero, suc, ◌+◌, ◌*◌, ◌/◌, ◌%◌, ◌^◌, ◌≤◌, ◌<◌}
use native.Mathlib.Numerals.{add-one}
use native.Mathlib.Omega.{arith}
use lib.Bits.{bit_xor, xor_mod, xor_shr}
use lib.ListN.{length, get_or, set, drop, length-drop}
use lib.Seq.{sets, get_or-drop, get_or-take}
use Rattle.bits.specs.Bits.{bit_val, test_bit, bit_at}
use Rattle.bits.specs.Bytes.{le_at, le_bytes, row_of}
use Rattle.bits.proofs.Little.{get_or-le_bytes, le_bytes-add, le_bytes-le_at, length-le_bytes, pow-bytes, sets-append}
use Rattle.bits.proofs.Rows.{row-get_or}
use Rattle.words.specs.Steps.{at, fill}
use Rattle.words.proofs.Fill.{fill-cong, fill-join, fill_none, fill-read, fill-turn}
use Rattle.masks.specs.Steps.{tape_bit, cleared, added, summed, loaded}
use Rattle.masks.proofs.Sums.{drop-summed}

-- byte i of a word
abbrev byte : ℕ → ℕ → ℕ
byte x i = x / 256 ^ i % 256

-- XOR goes byte by byte
byte-xor : (x y i : ℕ) → byte (bit_xor x y) i ≡ bit_xor (byte x i) (byte y i)
byte-xor x y i =
    let pow : (z : ℕ) → byte z i ≡ z / 2 ^ (8 * i) % 256 = λ z. ap (λ (k : ℕ). z / k % 256) (pow-bytes i) in
    let p : ℕ = 2 ^ (8 * i) in
    pow (bit_xor x y) ∙ ap (λ (k : ℕ). k % 256) (xor_shr x y (8 * i)) ∙ xor_mod (x / p) (y / p) 8 ∙ sym (ap₂ bit_xor (pow x) (pow y))

-- a byte of a word that is read
byte-read : (n : ℕ) (s : List ℕ) (k i : ℕ) → ((j : ℕ) → get_or s j 0 < 256) → k + n ≤ length s → i < n → byte (le_at n s k) i ≡ get_or s (k + i) 0
byte-read n s k i b h l =
    sym (get_or-le_bytes n (le_at n s k) i l) ∙ ap (λ (t : List ℕ). get_or t i 0) (le_bytes-le_at n s k b h)
    ∙ get_or-take n (drop k s) i 0 l ∙ get_or-drop k s i 0

-- the bytes of a word, stored
sets-fill : (n x c : ℕ) (m : List ℕ) → sets m c (le_bytes n x) ≡ fill (λ i. c + i) (byte x) n m
unfolding fill le_bytes
sets-fill zero x c m = refl
sets-fill (suc n) x c m =
    let y : ℕ = x / 256 ^ n in
    ap (λ (i : ℕ). sets m c (le_bytes i x)) (sym (add-one n)) ∙ ap (sets m c) (le_bytes-add n 1 x) ∙ sets-append (le_bytes n x) (le_bytes 1 y) m c
    ∙ ap (λ (k : ℕ). sets (sets m c (le_bytes n x)) (c + k) (le_bytes 1 y)) (length-le_bytes n x)
    ∙ ap (λ (t : List ℕ). set t (c + n) (y % 256)) (sets-fill n x c m)

-- 8 bytes of a memory XORed into others of it as words
pub word-added : (m : List ℕ) (k j x y : ℕ) → ((i : ℕ) → get_or m i 0 < 256) → k + 8 ≤ length m → j + 8 ≤ length m → x ≡ le_at 8 m k → y ≡ le_at 8 m j
    → sets m k (le_bytes 8 (bit_xor x y)) ≡ fill (λ i. k + i) (λ i. bit_xor (at m (k + i)) (at m (j + i))) 8 m
word-added m k j x y small h l e d =
    sets-fill 8 (bit_xor x y) k m
    ∙ fill-cong (λ i. k + i) (byte (bit_xor x y)) (λ i. bit_xor (at m (k + i)) (at m (j + i))) m 8
    (λ i q. byte-xor x y i
    ∙ ap₂ bit_xor (ap (λ (z : ℕ). byte z i) e ∙ byte-read 8 m k i small h q) (ap (λ (z : ℕ). byte z i) d ∙ byte-read 8 m j i small l q))

-- what stands at the place of byte j
abbrev sum : List ℕ → ℕ → List ℕ → ℕ → ℕ
sum row to w j = bit_xor (at w (to + j)) (at row j)

-- no byte is added yet
pub add_none : (row : List ℕ) (to : ℕ) (w : List ℕ) → w ≡ added row to 0 w
unfolding added
add_none row to w = fill_none _ _ w

-- a row that stands in the memory from byte a on
module _ (a to : ℕ) (w : List ℕ) where
  -- a byte that is not added yet
  add_read : (m : List ℕ) (j i : ℕ) → m ≡ added (drop a w) to j w → to + j ≤ i → at m i ≡ at w i
  unfolding added
  add_read m j i e l = fill-read _ _ w m j i e (λ u h q. omega arith)

  -- so is a byte of the row
  row_read : (m : List ℕ) (j i : ℕ) → m ≡ added (drop a w) to j w → to + j ≤ a → at m (a + i) ≡ at (drop a w) i
  row_read m j i e l = add_read m j (a + i) e (omega arith) ∙ sym (get_or-drop a w i 0)

  -- one byte more
  pub add_turn : (m : List ℕ) (j x y : ℕ) → m ≡ added (drop a w) to j w → to + j ≤ a → x ≡ get_or m (to + j) 0 → y ≡ get_or m (a + j) 0
      → set m (to + j) (bit_xor x y) ≡ added (drop a w) to (j + 1) w
  unfolding added
  add_turn m j x y e l p q =
      fill-turn _ (sum (drop a w) to w) w m j (to + j) (bit_xor x y) e refl
      (ap₂ bit_xor (p ∙ add_read m j (to + j) e (omega arith)) (q ∙ row_read m j j e l))

  -- one word more
  pub add-word-turn : (m v : List ℕ) (k : ℕ) → m ≡ added (drop a w) to (8 * k) w → to + 8 * k ≤ a
      → v ≡ fill (λ i. to + 8 * k + i) (λ i. bit_xor (at m (to + 8 * k + i)) (at m (a + 8 * k + i))) 8 m → v ≡ added (drop a w) to (8 * (k + 1)) w
  unfolding added
  add-word-turn m v k e l d =
      let pos : ℕ → ℕ = λ j. to + j in
      let f : ℕ → ℕ = sum (drop a w) to w in
      let g : ℕ → ℕ = λ i. bit_xor (at m (to + 8 * k + i)) (at m (a + 8 * k + i)) in
      let i : 8 * k + 8 ≡ 8 * (k + 1) = omega arith in
      d ∙ ap (fill (λ i. to + 8 * k + i) g 8) e
      ∙ fill-join pos f (λ i. to + 8 * k + i) g w (8 * k) 8 (λ z h. omega arith)
      (λ z h.
      let p : to + 8 * k + z ≡ to + (8 * k + z) = omega arith in
      let q : a + 8 * k + z ≡ a + (8 * k + z) = omega arith in
      ap₂ bit_xor (ap (at m) p ∙ add_read m (8 * k) (to + (8 * k + z)) e (omega arith)) (ap (at m) q ∙ row_read m (8 * k) (8 * k + z) e l))
      ∙ ap (λ (c : ℕ). fill pos f c w) i

-- one row more
pub row-added : (m v w : List ℕ) (a len to i : ℕ) → to + len ≤ a → a + (i * len + len) ≤ length w → m ≡ summed (drop a w) len to i w
    → v ≡ added (drop (a + i * len) m) to len m → v ≡ summed (drop a w) len to (i + 1) w
unfolding summed added
row-added m v w a len to i l room e h =
    let row : List ℕ = row_of (drop a w) len i in
    let k : ℕ = a + i * len in
    let same : drop k m ≡ drop k w = ap (drop k) e ∙ drop-summed (drop a w) len to i w k (omega arith) in
    let fits : i * len + len ≤ length (drop a w) = rw length-drop (omega arith) in
    h
    ∙ fill-cong (λ j. to + j) (sum (drop k m) to m) (sum row to m) m len
    (λ j q.
    let p : k + j ≡ a + (i * len + j) = omega arith in
    ap (bit_xor (at m (to + j)))
    (ap (λ (t : List ℕ). at t j) same ∙ get_or-drop k w j 0 ∙ ap (at w) p ∙ sym (row-get_or (drop a w) len i j fits q ∙ get_or-drop a w (i * len + j) 0)))
    ∙ ap (added row to len) e ∙ rw add-one

-- no row yet
pub sum-none : (tapes m w : List ℕ) (len to : ℕ) → m ≡ cleared to len w → m ≡ summed tapes len to 0 w
unfolding summed
sum-none tapes m w len to e = e

-- the masks of k inputs are loaded: the row is as it was
pub load_read : (W k q : ℕ) (f : ℕ → ℕ) (m w : List ℕ) → m ≡ fill (λ j. j) f k w → k ≤ W → bit_at m (tape_bit W q) ≡ bit_at w (tape_bit W q)
unfolding bit_at
load_read W k q f m w e l =
    ap (λ (x : ℕ). test_bit x ((8 * W + q) % 8)) (fill-read (λ j. j) f w m k ((8 * W + q) / 8) e (λ u h d. omega arith))

-- one more
pub load-turn : (W k x : ℕ) (m w : List ℕ) → m ≡ fill (λ j. j) (λ j. bit_val (bit_at w (tape_bit W j))) k w → k ≤ W → x ≡ bit_val (bit_at m (tape_bit W k))
    → set m k x ≡ fill (λ j. j) (λ j. bit_val (bit_at w (tape_bit W j))) (k + 1) w
load-turn W k x m w e l h =
    fill-turn (λ j. j) (λ j. bit_val (bit_at w (tape_bit W j))) w m k k x e refl
    (h ∙ ap bit_val (load_read W k k (λ j. bit_val (bit_at w (tape_bit W j))) m w e l))

-- all
pub load-done : (W I k : ℕ) (m c w : List ℕ) → c ≡ cleared 0 W w → m ≡ fill (λ j. j) (λ j. bit_val (bit_at c (tape_bit W j))) k c → k ≡ I → m ≡ loaded W I w
unfolding loaded
load-done W I k m c w e h q = rw (h, q, e)
