-- `seeds::list_leaves` meets its contract: the table holds the first k leaves.
-- Assumes nothing.
use Rattle.seeds.proofs.Leaves.{Listed}
use mathlib.Core.Path.{◌≡◌}
use lib.ListN.{length}
use Rattle.seeds.proofs.list_leaves.Given as goal

abbrev pub invariant-loop-k : goal.invariant-loop-k
invariant-loop-k l = (length l.table ≡ length l.initial.table) × Listed l.list l.k l.table
