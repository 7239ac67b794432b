-- `tree::opened_below` meets its contract: by the remaining height: the sibling's leaves, beside those of the child on the path.
-- Assumes nothing.
use Rattle.tree.proofs.+opened_below.Given as goal

abbrev pub decreases-opened_below : goal.decreases-opened_below
decreases-opened_below l = l.h
