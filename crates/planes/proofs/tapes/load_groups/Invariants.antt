-- `planes::tapes::load_groups` meets its contract. The invariant: g groups of rows are loaded.
-- Assumes nothing.
use mathlib.Core.Path.{◌≡◌}
use lib.ListN.{drop}
use Rattle.planes.specs.Steps.{loaded_groups}
use Rattle.planes.proofs.tapes.load_groups.Given as goal

abbrev pub invariant-loop-g : goal.invariant-loop-g
invariant-loop-g l = l.memory ≡ loaded_groups l.n (drop l.a l.initial.memory) l.len l.g l.to l.initial.memory
