-- `evaluation::output_byte` meets its contract. The loop's invariant: the sum is the number of the first t bits.
-- Assumes nothing.
use mathlib.Core.Bool.{false}
use mathlib.Core.Path.{◌≡◌}
use Prim.Native.Nat.{◌^◌, ◌+◌, ◌*◌}
use lib.ListN.{get_or}
use Rattle.bits.specs.Bits.{from_bits}
use Rattle.circuit.specs.Steps.{out_bits}
use Rattle.evaluation.proofs.output_byte.Given as goal

abbrev pub invariant-loop-t : goal.invariant-loop-t
invariant-loop-t l =
    (l.weight ≡ 2 ^ l.t) × (l.sum ≡ from_bits l.t (λ k. get_or (out_bits l.s l.values l.outputs) (8 * l.j + k) false))
