-- `bristol::walk::check_gates` meets its contract. The loop's invariant: the lines that are left, below those whose wires are flagged, give what all of them give.
-- Assumes nothing.
use Prim.Native.Nat.{◌-◌}
use Rattle.bristol_lines.proofs.Lined.{Walked}
use Rattle.bristol.proofs.walk.check_gates.Given as goal

abbrev pub invariant-loop : goal.invariant-loop
invariant-loop l = Walked l.s l.z l.initial.at l.flags (l.z.gates - l.counter) l.at
