-- `correcting::running::walk` meets its contract. The loop's invariant: the gates that are left, from the memory so far, give what all of them give.
-- Assumes nothing.
use mathlib.Core.Path.{◌≡◌}
use mathlib.Core.Bool.{true}
use Prim.Native.Nat.{◌+◌, ◌-◌}
use Rattle.circuit.specs.Circuit.{ands}
use Rattle.circuit.specs.Steps.{walks, wired, gates_from}
use Rattle.correcting.specs.Steps.{walked}
use Rattle.correcting.proofs.running.walk.Given as goal

abbrev pub invariant-loop : goal.invariant-loop
invariant-loop l = record {
  count : l.t + ands (gates_from l.s (l.end - l.counter) l.slot) ≡ l.l.ands;
  chain : walks l.s (l.end - l.counter) l.slot ≡ true;
  reads : wired l.s l.l.wires (l.end - l.counter) l.slot;
  same : walked l.l l.last l.s (l.end - l.counter) l.slot l.t l.memory ≡ walked l.l l.last l.s l.end l.head 0 l.initial.memory;
}
