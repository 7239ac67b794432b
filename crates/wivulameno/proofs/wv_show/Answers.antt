-- `wivulameno::wv_show` meets its contract.
-- Assumes nothing.
use Rattle.wivulameno.proofs.Statuses.{said}
use Rattle.wivulameno.proofs.wv_show.Goals as goal

pub returns : goal.returns
returns c = said _ _ _ _ c.show.ensures c.status.ensures
