-- `wivulameno::wv_check` meets its contract.
-- Assumes nothing.
use Rattle.wivulameno.proofs.Statuses.{said}
use Rattle.wivulameno.proofs.wv_check.Goals as goal

pub returns : goal.returns
returns c = said _ _ _ _ c.check.ensures c.status.ensures
