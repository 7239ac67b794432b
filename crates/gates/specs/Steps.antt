-- What only the contracts of steps use: no definition of the paper stands here.
-- What each gate and an output wire do to the work memory.
-- Assumes nothing.
use Rattle.std.specs.Prelude.{List, ℕ, ◌≤◌, ◌<◌}
use Rattle.std.specs.Int.Bits.{bit_xor, bit_and}
use Rattle.bits.specs.Bits.{odd, bit_val}
use Rattle.circuit.specs.declared.Gate.{Gate}
use Rattle.circuit.specs.declared.Gate.TheVariants.{Xor, And, Inv}
use Rattle.planes.specs.Steps as planes
use Rattle.planes.specs.Steps.{Room, share, put_share, tape, put_tape, masked, put_masked}
use Rattle.planes.specs.declared.Layout.{Layout}
use Rattle.words.specs.Words.{parity, broadcast_word, chosen}

-- wires a, b and c, and AND gate t
pub record Fit (l : Layout) (a b c t : ℕ) (m : List ℕ) : Type 0 where
  pub memory : Room l m
  pub first : a < l.wires
  pub second : b < l.wires
  pub output : c < l.wires
  pub order : t ≤ l.ands

-- the memory with shares x and masked value v of wire c
abbrev pub put_wire : Layout → ℕ → ℕ → ℕ → List ℕ → List ℕ
put_wire l c x v m = put_masked l c v (put_share c x m)

-- "XOR gates XOR the shares .. XOR and INV act on masked values as on values"
unfoldable pub xor_step : Layout → ℕ → ℕ → ℕ → List ℕ → List ℕ
xor_step l a b c m = put_wire l c (bit_xor (share m a) (share m b)) (bit_xor (masked l m a) (masked l m b)) m

-- "INV keeps them"
unfoldable pub inv_step : Layout → ℕ → ℕ → List ℕ → List ℕ
inv_step l a c m = put_wire l c (share m a) (bit_xor 1 (masked l m a)) m

-- "a party broadcasts the XOR of four bits" at AND gate t; at the places of hidden the broadcast stands in its place already
unfoldable pub and_word : Layout → ℕ → ℕ → ℕ → ℕ → List ℕ → ℕ
and_word l a b t hidden m =
    let z : ℕ = tape l m (planes.broadcast_word l t) in
    chosen hidden z (broadcast_word 64 (odd (masked l m a)) (odd (masked l m b)) (share m a) (share m b) z (tape l m (planes.mask_word l t)))

-- "an AND gate's output takes the tapes' next output masks .. Masked c is masked a times masked b, XOR all broadcasts."
unfoldable pub and_step : Layout → ℕ → ℕ → ℕ → ℕ → ℕ → List ℕ → List ℕ
and_step l a b c t hidden m =
    let x : ℕ = and_word l a b t hidden m in
    put_wire l c (tape l m (planes.mask_word l t)) (bit_xor (bit_and (masked l m a) (masked l m b)) (bit_val (parity 64 x)))
    (put_tape l (planes.broadcast_word l t) x m)

-- a gate that writes wire c, with t AND gates before it
abbrev pub gate_step : Layout → Gate → ℕ → ℕ → ℕ → List ℕ → List ℕ
gate_step l (Xor a b) c t hidden m = xor_step l a b c m
gate_step l (And a b) c t hidden m = and_step l a b c t hidden m
gate_step l (Inv a) c t hidden m = inv_step l a c m

-- "After the last gate each party broadcasts its mask shares of the O outputs": of wire w, as broadcast t
unfoldable pub output_word : Layout → ℕ → ℕ → ℕ → List ℕ → ℕ
output_word l w t hidden m = chosen hidden (tape l m (planes.broadcast_word l t)) (share m w)

unfoldable pub output_step : Layout → ℕ → ℕ → ℕ → List ℕ → List ℕ
output_step l w t hidden m = put_tape l (planes.broadcast_word l t) (output_word l w t hidden m) m

-- the value of output wire w: its masked value XOR all broadcasts of its mask
unfoldable pub output_value : Layout → ℕ → ℕ → ℕ → List ℕ → ℕ
output_value l w t hidden m = bit_xor (masked l m w) (bit_val (parity 64 (output_word l w t hidden m)))
