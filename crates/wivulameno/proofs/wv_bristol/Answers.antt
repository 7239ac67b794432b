-- `wivulameno::wv_bristol` meets its contract.
-- Assumes nothing.
use Rattle.wivulameno.proofs.Statuses.{told-numbers}
use Rattle.wivulameno.proofs.wv_bristol.Goals as goal

pub returns : goal.returns
returns c = told-numbers _ _ _ _ _ _ c.convert.ensures c.tell.ensures
