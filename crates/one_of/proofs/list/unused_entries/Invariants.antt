-- `one_of::list::unused_entries` meets its contract. The loop's invariant: the unused bits of the first e entries are zero.
-- Assumes nothing.
use mathlib.Core.Path.{◌≡◌}
use mathlib.Core.Bool.{true}
use Rattle.one_of.specs.OneOf.{unused_entries}
use Rattle.one_of.proofs.list.unused_entries.Given as goal

abbrev pub invariant-loop-e : goal.invariant-loop-e
invariant-loop-e l = true ≡ unused_entries l.outputs l.list l.e
