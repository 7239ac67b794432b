-- `one_of::list::repeated` meets its contract. The loop's invariant: none of the first i entries is entry e.
-- Assumes nothing.
use mathlib.Core.Path.{◌≡◌}
use mathlib.Core.Bool.{false}
use Rattle.one_of.specs.OneOf.{among}
use Rattle.one_of.proofs.list.repeated.Given as goal

abbrev pub invariant-loop-i : goal.invariant-loop-i
invariant-loop-i l = false ≡ among l.outputs l.list l.e l.i
