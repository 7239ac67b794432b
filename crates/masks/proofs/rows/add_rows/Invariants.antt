-- `masks::rows::add_rows` meets its contract. The loop's invariant: i rows are added.
-- Assumes nothing.
use mathlib.Core.Path.{◌≡◌}
use lib.ListN.{drop}
use Rattle.masks.specs.Steps.{summed}
use Rattle.masks.proofs.rows.add_rows.Given as goal

abbrev pub invariant-loop-i : goal.invariant-loop-i
invariant-loop-i l = l.memory ≡ summed (drop l.a l.fn.memory) l.len l.to l.i l.fn.memory
