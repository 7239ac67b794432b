-- `wivulameno::wv_run` meets its contract.
-- Assumes nothing.
use Rattle.wivulameno.proofs.Statuses.{said}
use Rattle.wivulameno.proofs.wv_run.Goals as goal

pub returns : goal.returns
returns c = said _ _ _ _ c.run.ensures c.status.ensures
