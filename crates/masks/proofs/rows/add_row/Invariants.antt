-- `masks::rows::add_row` meets its contract. The loop's invariant: j bytes are added.
-- Assumes nothing.
use mathlib.Core.Path.{◌≡◌}
use lib.ListN.{drop}
use Rattle.masks.specs.Steps.{added}
use Rattle.masks.proofs.rows.add_row.Given as goal

abbrev pub invariant-loop-j : goal.invariant-loop-j
invariant-loop-j l = l.memory ≡ added (drop l.a l.fn.memory) l.to l.j l.fn.memory
