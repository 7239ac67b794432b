-- The corrections that the walk with one mask a wire makes of a legal file are those that prepare is to make.
-- Assumes nothing.
use mathlib.Core.Path.{◌≡◌, refl, sym, ap, ap₂, ◌∙◌}
use mathlib.Core.Bool.{Bool, true, ◌&&◌}
use mathlib.Core.List.{List}
use Prim.Native.Nat.{ℕ, ◌+◌, ◌*◌, ◌≤◌}
use lib.Dec.{ltb}
use Rattle.bits.specs.Bits.{oct, pack, bit_at}
use Rattle.bits.specs.Bytes.{row_of}
use Rattle.bits.specs.Xor.{xors}
use Rattle.circuit.specs.Circuit.{Gate, ands}
use Rattle.circuit.specs.Fields as fields
use Rattle.circuit.specs.File.{gates_in_order, circuit_of}
use Rattle.circuit.specs.Steps.{Legal}
use Rattle.circuit.specs.declared.Sizes.{Sizes}
use Rattle.masks.specs.Masks.{mask_corrections}
use Rattle.masks.specs.Steps.{sum_bit, row_length, corrections_of}
use Rattle.plain.specs.Tapes.{ands_of, row_bytes, unused_rows}
use Rattle.plain.specs.Showing.{correction_bits}
use Rattle.packing.proofs.Masked.{tape-corrections}

-- the corrections of the gates gs by the XORs of rows of len bytes, with I inputs and A AND gates
abbrev by_rows : List ℕ → ℕ → List Gate → ℕ → ℕ → ℕ → List Bool
by_rows tapes n gs len I A =
    mask_corrections gs (λ t. xors n (λ i. bit_at (row_of tapes len i) (I + t))) (λ t. xors n (λ i. bit_at (row_of tapes len i) (I + A + t)))
    (λ w. ltb w I && xors n (λ i. bit_at (row_of tapes len i) w))

-- a legal file's circuit, by its numbers
module _ (s : List ℕ) (z : Sizes) (legal : Legal s z.inputs z.outputs z.gates) (count : z.ands ≡ ands (gates_in_order s)) where
  circuit-inputs : (circuit_of s).inputs ≡ z.inputs
  unfolding fields.circuit_of
  circuit-inputs = sym legal.laid.inputs

  circuit-ands : ands_of (circuit_of s) ≡ z.ands
  unfolding fields.circuit_of
  circuit-ands = sym count

  circuit-gates : (circuit_of s).gates ≡ gates_in_order s
  unfolding fields.circuit_of
  circuit-gates = refl

  circuit-row : row_bytes (circuit_of s) ≡ row_length z
  circuit-row = ap₂ (λ (x y : ℕ). oct (x + 2 * y)) circuit-inputs circuit-ands

  -- n parties whose rows have zeros where they are unused
  pub corrections-prepared : (n : ℕ) (tapes : List ℕ) → 1 ≤ n → unused_rows (circuit_of s) n tapes n ≡ true
      → corrections_of s z n tapes ≡ pack (correction_bits (circuit_of s) n tapes)
  unfolding corrections_of sum_bit
  corrections-prepared n tapes h e =
      sym (ap pack (tape-corrections (circuit_of s) n tapes h e
      ∙ ap (λ (len : ℕ). by_rows tapes n (circuit_of s).gates len (circuit_of s).inputs (ands_of (circuit_of s))) circuit-row
      ∙ ap₂ (by_rows tapes n (circuit_of s).gates (row_length z)) circuit-inputs circuit-ands
      ∙ ap (λ (gs : List Gate). by_rows tapes n gs (row_length z) z.inputs z.ands) circuit-gates))
