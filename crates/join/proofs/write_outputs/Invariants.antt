-- `join::write_outputs` meets its contract. The loop's invariant: the first j output wires are written.
-- Assumes nothing.
use mathlib.Core.Path.{◌≡◌}
use lib.ListN.{length}
use Rattle.join.specs.Steps.{joined_fields, placed}
use Rattle.join.proofs.write_outputs.Given as goal

abbrev pub invariant-loop-j : goal.invariant-loop-j
invariant-loop-j l = (length l.out ≡ length l.initial.out) × (l.out ≡ placed (joined_fields l.first l.second) 4 l.j l.initial.out)
