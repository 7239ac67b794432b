-- The bytes of y.
-- Assumes nothing.
use mathlib.Core.Path.{◌≡◌}
use mathlib.Core.Bool.{true, ◌&&◌}
use mathlib.Core.List.{List}
use Prim.Native.Nat.{ℕ, ◌≤◌}
use native.Mathlib.Omega.{arith}
use borrow.Author.Tests.{leb-true}
use lib.Dec.{leb}
use lib.ListN.{length}
use Rattle.bits.specs.Bits.{oct}
use Rattle.bits.proofs.Tests.{and-true-left, and-true-right}
use Rattle.circuit.specs.Fields as fields
use Rattle.circuit.specs.File.{max_inputs, max_outputs, max_gates, inputs_of, outputs_of, gates_of, within_limits, circuit_of, legal, read_circuit}
use Rattle.circuit.proofs.Answered.{passed}
use Rattle.seeds.specs.Operations.{max_output_bytes}
use Rattle.mpc.specs.Steps.{Known}
use Rattle.mpc.proofs.Opened.{sized}

-- a circuit that was read has an output
some-output : (s : List ℕ) → within_limits s ≡ true → 1 ≤ outputs_of s
unfolding fields.within_limits
some-output s e =
    let i = leb 1 (inputs_of s) && leb (inputs_of s) max_inputs in
    let o = leb 1 (outputs_of s) in
    let few = leb (outputs_of s) max_outputs in
    leb-true 1 (outputs_of s) (and-true-right i o (and-true-left (i && o) few (and-true-left (i && o && few) (leb (gates_of s) max_gates) e)))

-- so y has 1 to 32 bytes
pub output-bytes : (s : List ℕ) (i o g a : ℕ) → Known s (sized i o g a) → read_circuit s ≡ legal (circuit_of s) → (y : List ℕ) → length y ≡ oct o
    → (1 ≤ length y) × (length y ≤ max_output_bytes)
output-bytes s i o g a k e y size =
    let some = some-output s (passed s (circuit_of s) e).front.limited in
    (omega (arith, size, some, k.legal.laid.outputs), omega (arith, size, k.legal.laid.few_outputs))
