-- `seeds::are_leaves` meets its contract: none of the first k leaves is at or above m.
-- Assumes nothing.
use Rattle.seeds.proofs.Leaves.{Below}
use Rattle.seeds.proofs.are_leaves.Given as goal

abbrev pub invariant-loop-k : goal.invariant-loop-k
invariant-loop-k l = Below l.m l.list l.k
