-- `planes::rows::store_groups` meets its contract. The invariant: g groups of rows are stored.
-- Assumes nothing.
use mathlib.Core.Path.{◌≡◌}
use Rattle.planes.specs.Steps.{stored_groups}
use Rattle.planes.proofs.rows.store_groups.Given as goal

abbrev pub invariant-loop-g : goal.invariant-loop-g
invariant-loop-g l = l.rows ≡ stored_groups l.n l.memory l.from l.len l.g l.initial.rows
