-- The laws of an honest run: its wires are those after the gates, their masked values are right, and so is its output.
-- Assumes nothing.
use mathlib.Core.Path.{◌≡◌, refl}
use mathlib.Core.Bool.{Bool}
use mathlib.Core.List.{List, [], ◌∷◌}
use Prim.Native.Nat.{ℕ}
use lib.ListN.{length, take}
use Rattle.bits.specs.Bits.{bit_at}
use Rattle.circuit.specs.Circuit.{Gate, xor, and, inv, evaluate}
use Rattle.plain.specs.Run.{Column, next, as_sent, outputs, run}
use Rattle.plain.specs.Tapes.{input_masks, output_masks, product_shares}
use Rattle.plain.specs.Showing.{correction_bits, masked_input, run_with, run_on, honest_run}
use Rattle.hiding.specs.Laws.{after, wires_after, RunEnds, MaskedValues, RunEvaluates}
use Rattle.hiding.proofs.Masked.{run-output, after-masked}

-- a run ends with the outputs on the wires after all gates
run-after : (n : ℕ) (outs : List ℕ) (gs : List Gate) (o z s : ℕ → Column) (m : ℕ → Bool)
    → (run n outs gs o z as_sent s m).output
    ≡ (outputs n outs as_sent (after n (take (length gs) gs) o z s m).share (after n (take (length gs) gs) o z s m).masked).output
unfolding run after
run-after n outs [] o z s m = refl
run-after n outs (xor a b c ∷ gs) o z s m = run-after n outs gs o z _ _
run-after n outs (and a b c ∷ gs) o z s m = run-after n outs gs (next o) (next z) _ _
run-after n outs (inv a c ∷ gs) o z s m = run-after n outs gs o z _ _

-- the wires after all gates are the run's
pub run_ends : RunEnds
unfolding honest_run run_on run_with wires_after
run_ends c n tapes w = run-after n c.outputs c.gates (output_masks c tapes) _ (input_masks c tapes) (masked_input c n w tapes)

-- a masked value is the value XOR the mask
pub masked-values : MaskedValues
unfolding wires_after correction_bits masked_input
masked-values c n h tapes w g k =
    after-masked n h c.gates g (output_masks c tapes) (product_shares c tapes) (input_masks c tapes) (bit_at w) (masked_input c n w tapes) (λ k. refl) k

-- an honest run gives the circuit's output
pub run-evaluates : RunEvaluates
unfolding honest_run run_on run_with correction_bits masked_input evaluate
run-evaluates c n h tapes w =
    run-output n h c.outputs c.gates (output_masks c tapes) (product_shares c tapes) (input_masks c tapes) (bit_at w) (masked_input c n w tapes)
    (λ k. refl)
