-- `four_sponges::squeeze4` meets its contract. The loop's invariant: `at` bytes of each row are given.
-- Assumes nothing.
use Prim.Native.Nat.{◌-◌}
use Rattle.four_sponges.proofs.Blocks.{Halfway}
use Rattle.four_sponges.proofs.squeeze4.Given as goal

abbrev pub invariant-loop-at : goal.invariant-loop-at
invariant-loop-at l = Halfway l.rate l.len l.initial.s l.initial.rows l.s l.rows l.at

abbrev pub decreases-loop-at : goal.decreases-loop-at
decreases-loop-at l = l.len - l.at
