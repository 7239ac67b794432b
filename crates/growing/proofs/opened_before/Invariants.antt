-- `growing::opened_before` meets its contract: r opened nodes are below k.
-- Assumes nothing.
use Rattle.cover.specs.Cover.{those}
use Rattle.cover.specs.Steps.{opened_by}
use mathlib.Core.Path.{◌≡◌}
use Prim.Native.Nat.{◌≤◌}
use lib.ListN.{length}
use Rattle.growing.proofs.opened_before.Given as goal

abbrev pub invariant-loop-k : goal.invariant-loop-k
invariant-loop-k l = (l.r ≤ l.k) × (l.r ≡ length (those l.k (opened_by l.marks)))
