-- `legality::and_count` meets its contract. The loop's invariant: the count and the AND gates that are left make up all of them.
-- Assumes nothing.
use mathlib.Core.Bool.{true}
use mathlib.Core.Path.{◌≡◌}
use Prim.Native.Nat.{◌+◌, ◌-◌, ◌≤◌}
use Rattle.circuit.specs.Circuit.{ands}
use Rattle.circuit.specs.Fields.{field}
use Rattle.circuit.specs.FieldSteps.{walks, gates_from}
use Rattle.legality.proofs.and_count.Given as goal

abbrev pub invariant-loop : goal.invariant-loop
invariant-loop l =
    (l.count ≤ l.counter) × ((walks (field l.f.width l.s) (l.f.gates - l.counter) l.slot ≡ true) × (l.count + ands (gates_from (field l.f.width l.s) (l.f.gates - l.counter) l.slot) ≡ ands (gates_from (field l.f.width l.s) l.f.gates l.f.head)))
