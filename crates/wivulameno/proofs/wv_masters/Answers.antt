-- `wivulameno::wv_masters` meets its contract.
-- Assumes nothing.
use Rattle.wivulameno.proofs.Statuses.{said}
use Rattle.wivulameno.proofs.wv_masters.Goals as goal

pub returns : goal.returns
returns c = said _ _ _ _ c.masters.ensures c.status.ensures
