-- `tree::leaves_below` meets its contract: by the remaining height: the leaves below the left child, then those below the
-- right one, or those below the grandchildren.
-- Assumes nothing.
use Rattle.tree.proofs.+leaves_below.Given as goal

abbrev pub decreases-leaves_below : goal.decreases-leaves_below
decreases-leaves_below l = l.h
