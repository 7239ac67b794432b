-- `wivulameno::wv_shared_start` meets its contract.
-- Assumes nothing.
use Rattle.wivulameno.proofs.Statuses.{start-status}
use Rattle.wivulameno.proofs.wv_shared_start.Goals as goal

pub returns : goal.returns
returns c = (start-status, c.start.ensures)
