-- `wivulameno::wv_stock` meets its contract.
-- Assumes nothing.
use Rattle.wivulameno.proofs.Statuses.{said}
use Rattle.wivulameno.proofs.wv_stock.Goals as goal

pub returns : goal.returns
returns c = said _ _ _ _ c.stock.ensures c.status.ensures
