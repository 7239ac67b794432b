-- `stepping::masters::from_above` meets its contract: by the levels that are left.
-- Assumes nothing.
use Rattle.stepping.proofs.masters.+from_above.Given as goal

abbrev pub decreases-from_above : goal.decreases-from_above
decreases-from_above l = l.d
