-- `wivulameno::wv_cover` meets its contract.
-- Assumes nothing.
use Rattle.wivulameno.proofs.Statuses.{said}
use Rattle.wivulameno.proofs.wv_cover.Goals as goal

pub returns : goal.returns
returns c = said _ _ _ _ c.cover.ensures c.status.ensures
