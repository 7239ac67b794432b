-- `planes::rows::store_eight_within` meets its contract. The invariant: b bytes of each row are stored.
-- Assumes nothing.
use mathlib.Core.Path.{◌≡◌}
use Rattle.planes.specs.Steps.{stored_words}
use Rattle.planes.proofs.rows.store_eight_within.Given as goal

abbrev pub invariant-loop-b : goal.invariant-loop-b
invariant-loop-b l = l.memory ≡ stored_words l.n l.initial.memory l.from l.b l.a l.len l.initial.memory
