-- `wivulameno::wv_open` meets its contract.
-- Assumes nothing.
use Rattle.wivulameno.proofs.Statuses.{said}
use Rattle.wivulameno.proofs.wv_open.Goals as goal

pub returns : goal.returns
returns c = said _ _ _ _ c.open.ensures c.status.ensures
