-- The corrections from the wires' masks alone, a bit a wire: the XOR over the parties is taken first, and no party's share is left.
-- Assumes nothing.
use Rattle.std.specs.Prelude.{Bool, ◌&&◌, List, [], ◌∷◌, ℕ, suc}
use Rattle.bits.specs.Xor.{◌⊕◌}
use Rattle.circuit.specs.Circuit.{Gate, xor, and, inv, put}

-- "the correction bit: the product of the two input masks XOR the other parties' product shares", for each AND gate: output masks o
-- of the AND gates to come, the XORs z of the other parties' product shares, masks s of the wires
unfoldable pub mask_corrections : List Gate → (ℕ → Bool) → (ℕ → Bool) → (ℕ → Bool) → List Bool
mask_corrections [] o z s = []
mask_corrections (xor a b c ∷ gs) o z s = mask_corrections gs o z (put s c (s a ⊕ s b))
mask_corrections (and a b c ∷ gs) o z s = ((s a && s b) ⊕ z 0) ∷ mask_corrections gs (λ t. o (suc t)) (λ t. z (suc t)) (put s c (o 0))
mask_corrections (inv a c ∷ gs) o z s = mask_corrections gs o z (put s c (s a))
