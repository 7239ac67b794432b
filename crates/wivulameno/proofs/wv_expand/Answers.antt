-- `wivulameno::wv_expand` meets its contract.
-- Assumes nothing.
use Rattle.wivulameno.proofs.Statuses.{said}
use Rattle.wivulameno.proofs.wv_expand.Goals as goal

pub returns : goal.returns
returns c = said _ _ _ _ c.expand.ensures c.status.ensures
