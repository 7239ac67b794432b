-- `growing::grow` meets its contract: the children of every node below k stand in their rows.
-- Assumes nothing.
use Rattle.cover.specs.Masters.{child_of}
use Rattle.growing.proofs.Growing.{Grown}
use mathlib.Core.Path.{◌≡◌}
use Prim.Native.Nat.{◌-◌, ◌*◌, ◌^◌, ◌≤◌}
use lib.ListN.{length}
use Rattle.growing.proofs.grow.Given as goal

abbrev pub invariant-loop-k : goal.invariant-loop-k
invariant-loop-k l = ((1 ≤ l.k) × (l.k ≤ l.end)) × (l.end ≡ 2 ^ l.h) × (length l.nodes ≡ 2 ^ l.h * 32) × Grown (child_of l.j) l.root l.h l.k l.nodes

abbrev pub decreases-loop-k : goal.decreases-loop-k
decreases-loop-k l = l.end - l.k
