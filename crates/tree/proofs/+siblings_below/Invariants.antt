-- `tree::siblings_below` meets its contract: by the remaining height: a sibling, then those below the child on the path.
-- Assumes nothing.
use Rattle.tree.proofs.+siblings_below.Given as goal

abbrev pub decreases-siblings_below : goal.decreases-siblings_below
decreases-siblings_below l = l.h
