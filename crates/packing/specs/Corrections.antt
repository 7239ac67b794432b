-- Theorem, mask corrections: the corrections depend on the XORs over the parties alone.
-- Assumes nothing.
use Rattle.std.specs.Prelude.{◌≡◌, true, ◌&&◌, List, ℕ, ◌+◌, ◌-◌, ◌≤◌, ltb}
use Rattle.bits.specs.Bits.{bit_at}
use Rattle.bits.specs.Xor.{xors}
use Rattle.circuit.specs.Circuit.{Gate, Circuit}
use Rattle.masks.specs.Masks.{mask_corrections}
use Rattle.plain.specs.Run.{Column, corrections}
use Rattle.plain.specs.Tapes.{ands_of, tape_row, unused_rows}
use Rattle.plain.specs.Showing.{correction_bits}

-- for any number of parties: the masks of the wires and of the AND gates' outputs, "the other parties' product shares"
abbrev pub MaskCorrections : Type 0
MaskCorrections =
    (n : ℕ) (gs : List Gate) (o z s : ℕ → Column)
    → corrections n gs o z s ≡ mask_corrections gs (λ t. xors n (o t)) (λ t. xors (n - 1) (z t)) (λ w. xors n (s w))

-- by the tapes: "for party n − 1 the last A places are unused", so that the XOR over all rows serves for the product shares too
abbrev pub TapeCorrections : Type 0
TapeCorrections =
    (c : Circuit) (n : ℕ) (tapes : List ℕ) → 1 ≤ n → unused_rows c n tapes n ≡ true
    → correction_bits c n tapes
    ≡ mask_corrections c.gates (λ t. xors n (λ i. bit_at (tape_row c tapes i) (c.inputs + t)))
    (λ t. xors n (λ i. bit_at (tape_row c tapes i) (c.inputs + ands_of c + t)))
    (λ w. ltb w c.inputs && xors n (λ i. bit_at (tape_row c tapes i) w))
