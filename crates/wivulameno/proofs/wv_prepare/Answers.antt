-- `wivulameno::wv_prepare` meets its contract.
-- Assumes nothing.
use Rattle.wivulameno.proofs.Statuses.{said}
use Rattle.wivulameno.proofs.wv_prepare.Goals as goal

pub returns : goal.returns
returns c = said _ _ _ _ c.prepare.ensures c.status.ensures
