-- The memory that is left when the corrections are made: its length, the corrections in it, and what stands after them.
-- Assumes nothing.
use mathlib.Core.Path.{◌≡◌, refl, sym, ap, ◌∙◌}
use mathlib.Core.Bool.{Bool, true}
use mathlib.Core.List.{List, [], ◌∷◌}
use Prim.Native.Nat.{ℕ, zero, suc, ◌+◌, ◌-◌, ◌≤◌}
use native.Mathlib.Omega.{arith}
use lib.ListN.{length, take, drop, length-set}
use lib.Seq.{sets, length-sets, drop-set-lt}
use Rattle.bits.specs.Bits.{oct}
use Rattle.bits.proofs.Packing.{length-pack}
use Rattle.circuit.specs.Circuit.{Gate, xor, and, inv, ands}
use Rattle.circuit.specs.File.{inputs_of, gates_of, head_of, next_of, gates_in_order}
use Rattle.circuit.specs.Steps.{gate_of, and_one, walks}
use Rattle.circuit.specs.declared.Sizes.{Sizes}
use Rattle.circuit.proofs.Chain.{here}
use Rattle.circuit.proofs.Run.{good_chain-walks}
use Rattle.masks.specs.Masks.{mask_corrections}
use Rattle.masks.specs.Steps.{wire_count, row_length, rows_from, masks_from, walked, worked, corrections_of, Lent}
use Rattle.masks.proofs.Parts.{drop-sets, part-sets}
use Rattle.masks.proofs.Sums.{sum-length, drop-summed, load-length, drop-loaded}

-- an AND gate has a correction
length-mask_corrections : (gs : List Gate) (o z s : ℕ → Bool) → length (mask_corrections gs o z s) ≡ ands gs
unfolding mask_corrections ands
length-mask_corrections [] o z s = refl
length-mask_corrections (xor a b c ∷ gs) o z s = length-mask_corrections gs _ _ _
length-mask_corrections (and a b c ∷ gs) o z s = ap suc (length-mask_corrections gs _ _ _)
length-mask_corrections (inv a c ∷ gs) o z s = length-mask_corrections gs _ _ _

pub length-corrections_of : (s : List ℕ) (z : Sizes) (n : ℕ) (tapes : List ℕ) → z.ands ≡ ands (gates_in_order s)
    → length (corrections_of s z n tapes) ≡ oct z.ands
unfolding corrections_of
length-corrections_of s z n tapes e = length-pack (mask_corrections (gates_in_order s) _ _ _) ∙ ap oct (length-mask_corrections (gates_in_order s) _ _ _ ∙ sym e)

-- the memory that the walk leaves
module _ (s : List ℕ) (masks : ℕ) where
  walked-length : (k slot t : ℕ) (m : List ℕ) → length (walked s masks k slot t m) ≡ length m
  unfolding walked
  walked-length zero slot t m = refl
  walked-length (suc k) slot t m = walked-length k (next_of s slot) (t + and_one (gate_of s slot)) _ ∙ length-set m _ _

  -- the wires stand before place j
  drop-walked : (j k slot t : ℕ) (m : List ℕ) → inputs_of s + gates_of s ≤ j → walks s k slot ≡ true → drop j (walked s masks k slot t m) ≡ drop j m
  unfolding walked
  drop-walked j zero slot t m h e = refl
  drop-walked j (suc k) slot t m h e =
      let v = here s (suc k) slot (omega arith) e in
      let y : suc k - 1 ≡ k = omega arith in
      drop-walked j k (next_of s slot) (t + and_one (gate_of s slot)) _ h (rw y at v.rest) ∙ drop-set-lt j m (inputs_of s + slot - 1) _ (omega arith)

module _ (s : List ℕ) (z : Sizes) (n a at : ℕ) (m : List ℕ) (lent : Lent s z n a at m) where
  abbrev tapes : List ℕ
  tapes = rows_from z n a m

  -- what the code leaves
  abbrev left : List ℕ
  left = sets (worked s z n tapes m) at (corrections_of s z n tapes)

  size : length (corrections_of s z n tapes) ≡ oct z.ands
  size = length-corrections_of s z n tapes lent.ands

  fits : at + oct z.ands ≤ length m
  fits = omega (arith, lent.corrections, lent.tapes)

  worked-size : length (worked s z n tapes m) ≡ length m
  unfolding worked
  worked-size =
      let e = sum-length tapes (row_length z) (wire_count z) m n in
      walked-length s (masks_from z) z.gates (head_of s) 0 _
      ∙ load-length (wire_count z) z.inputs (omega arith) _ (omega (arith, e, lent.row, fits)) ∙ e

  -- the wires and the row stand before place j
  drop-worked : (j : ℕ) → wire_count z + row_length z ≤ j → drop j (worked s z n tapes m) ≡ drop j m
  unfolding worked
  drop-worked j h =
      let good : walks s z.gates (head_of s) ≡ true = ap (λ (k : ℕ). walks s k (head_of s)) lent.legal.laid.gates ∙ good_chain-walks s lent.legal.chain in
      drop-walked s (masks_from z) j z.gates (head_of s) 0 _ (omega (arith, lent.legal.laid.inputs, lent.legal.laid.gates, h)) good
      ∙ drop-loaded (wire_count z) z.inputs _ j (omega arith) (omega arith)
      ∙ drop-summed tapes (row_length z) (wire_count z) n m j h

  -- it is as long as before
  pub left-length : length left ≡ length m
  left-length = length-sets (worked s z n tapes m) at (corrections_of s z n tapes) ∙ worked-size

  -- what stands after the corrections is untouched: the tapes, and what stands after them
  pub left_after : drop (at + oct z.ands) left ≡ drop (at + oct z.ands) m
  left_after =
      drop-sets (corrections_of s z n tapes) (worked s z n tapes m) at (at + oct z.ands) (omega (arith, size))
      ∙ drop-worked (at + oct z.ands) (omega (arith, lent.row))

  -- the corrections stand in it
  pub left-corrections : take (oct z.ands) (drop at left) ≡ corrections_of s z n tapes
  left-corrections = part-sets (corrections_of s z n tapes) (worked s z n tapes m) at (oct z.ands) size (omega (arith, fits, worked-size))
