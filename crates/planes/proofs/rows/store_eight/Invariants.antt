-- `planes::rows::store_eight` meets its contract. The invariant: b bytes of each row are stored.
-- Assumes nothing.
use mathlib.Core.Path.{◌≡◌}
use Rattle.planes.specs.Steps.{stored_words}
use Rattle.planes.proofs.rows.store_eight.Given as goal

abbrev pub invariant-loop-b : goal.invariant-loop-b
invariant-loop-b l = l.rows ≡ stored_words l.n l.memory l.from l.b l.a l.len l.initial.rows
