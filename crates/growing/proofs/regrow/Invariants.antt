-- `growing::regrow` meets its contract: the children of every node below k stand in their rows, from the first n values.
-- Assumes nothing.
use Rattle.cover.specs.Cover.{those}
use Rattle.cover.specs.Steps.{opened_by, follow_of}
use Rattle.growing.proofs.Growing.{Grown}
use mathlib.Core.Path.{◌≡◌}
use Prim.Native.Nat.{◌-◌, ◌*◌, ◌^◌, ◌≤◌}
use lib.ListN.{length, replicate}
use Rattle.growing.proofs.regrow.Given as goal

abbrev pub invariant-loop-k : goal.invariant-loop-k
invariant-loop-k l = ((1 ≤ l.k) × (l.k ≤ l.end)) × (l.end ≡ 2 ^ l.h) × (length l.nodes ≡ 2 ^ l.h * 32) × (l.n ≡ length (those (2 * l.k) (opened_by l.marks))) × Grown (follow_of l.j l.marks l.values) (replicate 16 0) l.h l.k l.nodes

abbrev pub decreases-loop-k : goal.decreases-loop-k
decreases-loop-k l = l.end - l.k
