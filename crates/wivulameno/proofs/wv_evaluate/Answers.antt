-- `wivulameno::wv_evaluate` meets its contract.
-- Assumes nothing.
use Rattle.wivulameno.proofs.Statuses.{said}
use Rattle.wivulameno.proofs.wv_evaluate.Goals as goal

pub returns : goal.returns
returns c = said _ _ _ _ c.evaluate.ensures c.status.ensures
