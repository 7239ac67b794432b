-- What only the contracts of steps use: no definition of the paper stands here.
-- The memory for W wires: a byte a wire, its mask in the lowest bit; then one row, the XOR of all parties' tapes.
-- Assumes nothing.
use Rattle.std.specs.Prelude.{◌≡◌, Bool, cond, ◌&&◌, List, ℕ, zero, suc, ◌+◌, ◌-◌, ◌*◌, ◌/◌, ◌%◌, ◌^◌, ◌≤◌, ◌<◌, eqb, ltb, length, get_or, set, take, drop}
use Rattle.std.specs.Int.Bits.{bit_xor, bit_and}
use Rattle.bits.specs.Bits.{oct, pack, odd, bit_val, bit_at}
use Rattle.bits.specs.Bytes.{row_of}
use Rattle.bits.specs.Xor.{xors}
use Rattle.bits.specs.Steps.{put_bit}
use Rattle.circuit.specs.Circuit.{ands}
use Rattle.circuit.specs.File.{inputs_of, head_of, next_of, gates_in_order}
use Rattle.circuit.specs.Steps.{gate_of, and_one, within, wired, gates_from, Chained, Legal}
use Rattle.circuit.specs.declared.Gate.{Gate}
use Rattle.circuit.specs.declared.Gate.TheVariants.{Xor, And, Inv}
use Rattle.circuit.specs.declared.Sizes.{Sizes}
use Rattle.words.specs.Steps.{at, fill}
use Rattle.masks.specs.Masks.{mask_corrections}

-- the wires of a circuit: I + G
abbrev pub wire_count : Sizes → ℕ
wire_count z = z.inputs + z.gates

-- "Rows are oct(I+2A) bytes each"
abbrev pub row_length : Sizes → ℕ
row_length z = oct (z.inputs + 2 * z.ands)

-- bit q of the row after the bytes of W wires
abbrev pub tape_bit : ℕ → ℕ → ℕ
tape_bit W q = 8 * W + q

-- the output mask of the first AND gate, and the XOR of its product shares, as bits of the memory
abbrev pub masks_from : Sizes → ℕ
masks_from z = tape_bit (wire_count z) z.inputs

abbrev pub products_from : Sizes → ℕ
products_from z = masks_from z + z.ands

-- len bytes from `to` on are zero
unfoldable pub cleared : ℕ → ℕ → List ℕ → List ℕ
cleared to len m = fill (λ j. to + j) (λ j. 0) len m

-- the first count bytes of a row XORed into those from `to` on
unfoldable pub added : List ℕ → ℕ → ℕ → List ℕ → List ℕ
added row to count m = fill (λ j. to + j) (λ j. bit_xor (at m (to + j)) (at row j)) count m

-- the XOR of the first n rows of len bytes, from `to` on
unfoldable pub summed : List ℕ → ℕ → ℕ → ℕ → List ℕ → List ℕ
summed tapes len to zero m = cleared to len m
summed tapes len to (suc i) m = added (row_of tapes len i) to len (summed tapes len to i m)

-- the masks of the I inputs, the other wires' bytes zero
unfoldable pub loaded : ℕ → ℕ → List ℕ → List ℕ
loaded W I m =
    let c : List ℕ = cleared 0 W m in
    fill (λ k. k) (λ k. bit_val (bit_at c (tape_bit W k))) I c

-- the mask that a gate gives its output: "XOR gates XOR the shares, INV keeps them; an AND gate's output takes the tapes' next output
-- masks", here bit k of the memory
abbrev pub mask_byte : ℕ → Gate → List ℕ → ℕ
mask_byte k (Xor a b) m = bit_xor (at m a) (at m b)
mask_byte k (And a b) m = bit_val (bit_at m k)
mask_byte k (Inv a) m = at m a

-- the corrections with that of an AND gate put at t, where the XOR of its product shares is bit k of the memory
abbrev pub corrected : ℕ → Gate → ℕ → List ℕ → List ℕ → List ℕ
corrected k (Xor a b) t m cs = cs
corrected k (And a b) t m cs = put_bit cs t (odd (bit_xor (bit_and (at m a) (at m b)) (bit_val (bit_at m k))))
corrected k (Inv a) t m cs = cs

-- one gate: an AND gate's correction is put as bit c of the memory, its product shares' XOR being bit p; then wire `out` has the gate's mask
abbrev pub passed : Gate → ℕ → ℕ → ℕ → ℕ → List ℕ → List ℕ
passed g out k p c m =
    let v : List ℕ = corrected p g c m m in
    set v out (mask_byte k g v)

-- the byte that correction t comes into: a new one where those before it end one
unfoldable pub carried : ℕ → ℕ → ℕ
carried t byte = cond (eqb (t % 8) 0) 0 byte

-- the byte that has the corrections before a gate, t of them, after it
abbrev pub byte_after : ℕ → Gate → ℕ → List ℕ → ℕ → ℕ
byte_after p (Xor a b) t m byte = byte
byte_after p (And a b) t m byte = carried (t + 1) (byte + bit_val (odd (bit_xor (bit_and (at m a) (at m b)) (bit_val (bit_at m p)))) * 2 ^ (t % 8))
byte_after p (Inv a) t m byte = byte

-- what a gate asks: its wires are in the memory, and of an AND gate the bits k and p and the place of its correction, whose byte has the
-- bits before it and no other
pub record Asks (g : Gate) (out k p c t byte : ℕ) (m : List ℕ) : Type 0 where
  pub wires : within (length m) g
  pub written : out < length m
  pub mask : k + and_one g ≤ 8 * length m
  pub product : p + and_one g ≤ 8 * length m
  pub place : 8 * c + t + and_one g ≤ 8 * length m
  pub held : 1 ≤ and_one g → byte ≡ at m (c + t / 8)
  pub low : byte < 2 ^ (t % 8)
  pub few : t ≤ 4194304

-- k gates of the file s from slot `slot` on, with t AND gates before them: the memory
unfoldable pub walked : List ℕ → ℕ → ℕ → ℕ → ℕ → List ℕ → List ℕ
walked s masks zero slot t m = m
walked s masks (suc k) slot t m =
    walked s masks k (next_of s slot) (t + and_one (gate_of s slot)) (set m (inputs_of s + slot - 1) (mask_byte (masks + t) (gate_of s slot) m))

-- and the corrections
unfoldable pub made : List ℕ → ℕ → ℕ → ℕ → ℕ → ℕ → List ℕ → List ℕ → List ℕ
made s masks products zero slot t m cs = cs
made s masks products (suc k) slot t m cs =
    made s masks products k (next_of s slot) (t + and_one (gate_of s slot)) (set m (inputs_of s + slot - 1) (mask_byte (masks + t) (gate_of s slot) m))
    (corrected (products + t) (gate_of s slot) t m cs)

-- the chain of the file s from h on, with memory for its wires and a row, and zeros for the corrections after them, from byte `at` on
pub record Ready (s : List ℕ) (z : Sizes) (h at : ℕ) (m : List ℕ) : Type 0 where
  pub chained : Chained s z.inputs z.outputs z.gates h
  pub reads : wired s (wire_count z) z.gates h
  pub count : ands (gates_from s z.gates h) ≡ z.ands
  pub few : z.ands ≤ z.gates
  pub row : wire_count z + row_length z ≤ at
  pub room : at + oct z.ands ≤ length m
  pub low : at ≤ 1073741824
  pub zeros : (j : ℕ) → j < oct z.ands → get_or m (at + j) 0 ≡ 0

-- a legal file s with its numbers, and a memory with the tape rows of n parties from byte a on, room for the corrections from byte `at`
-- on before them, and for the wires and a row before those
pub record Lent (s : List ℕ) (z : Sizes) (n a at : ℕ) (m : List ℕ) : Type 0 where
  pub legal : Legal s z.inputs z.outputs z.gates
  pub ands : z.ands ≡ ands (gates_in_order s)
  pub row : wire_count z + row_length z ≤ at
  pub low : at ≤ 1073741824
  pub corrections : at + oct z.ands ≤ a
  pub tapes : a + n * row_length z ≤ length m

-- the tape rows of n parties that stand in the memory from byte a on
abbrev pub rows_from : Sizes → ℕ → ℕ → List ℕ → List ℕ
rows_from z n a m = take (n * row_length z) (drop a m)

-- the memory's wires and row when the corrections are made
unfoldable pub worked : List ℕ → Sizes → ℕ → List ℕ → List ℕ → List ℕ
worked s z n tapes m =
    walked s (masks_from z) z.gates (head_of s) 0 (loaded (wire_count z) z.inputs (summed tapes (row_length z) (wire_count z) n m))

-- bit q of the XOR of the rows of n parties
unfoldable pub sum_bit : List ℕ → ℕ → ℕ → ℕ → Bool
sum_bit tapes len n q = xors n (λ i. bit_at (row_of tapes len i) q)

-- the corrections, packed: party n - 1 has zeros for its product shares, so that the XOR over all rows is that over the others'
unfoldable pub corrections_of : List ℕ → Sizes → ℕ → List ℕ → List ℕ
corrections_of s z n tapes =
    pack
    (mask_corrections (gates_in_order s) (λ t. sum_bit tapes (row_length z) n (z.inputs + t))
    (λ t. sum_bit tapes (row_length z) n (z.inputs + z.ands + t))
    (λ w. ltb w z.inputs && sum_bit tapes (row_length z) n w))
