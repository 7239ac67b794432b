-- `tree::four_leaves_below` meets its contract: by the remaining height: the leaves below the first four of eight children, then those
-- below the other four.
-- Assumes nothing.
use Rattle.tree.proofs.+four_leaves_below.Given as goal

abbrev pub decreases-four_leaves_below : goal.decreases-four_leaves_below
decreases-four_leaves_below l = l.h
