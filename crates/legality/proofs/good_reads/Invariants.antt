-- `legality::good_reads` meets its contract. The loop's invariant: the gates that are left, with the wires flagged so far, pass as all of them do.
-- Assumes nothing.
use mathlib.Core.Bool.{true}
use mathlib.Core.Path.{◌≡◌}
use Prim.Native.Nat.{◌-◌}
use lib.ListN.{length}
use Rattle.circuit.specs.Fields.{field, reads_written}
use Rattle.circuit.specs.FieldSteps.{walks, gates_from, inputs_first}
use Rattle.circuit.specs.Steps.{wire_bytes, seen}
use Rattle.legality.proofs.good_reads.Given as goal

abbrev pub invariant-loop : goal.invariant-loop
invariant-loop l =
    (length l.flags ≡ wire_bytes) × ((walks (field l.f.width l.s) (l.f.gates - l.counter) l.slot ≡ true) × (reads_written (seen l.inputs l.flags) (gates_from (field l.f.width l.s) (l.f.gates - l.counter) l.slot) ≡ inputs_first (field l.f.width l.s) l.f.gates l.f.head))
