-- `wivulameno::wv_join` meets its contract.
-- Assumes nothing.
use Rattle.wivulameno.proofs.Statuses.{told-numbers}
use Rattle.wivulameno.proofs.wv_join.Goals as goal

pub returns : goal.returns
returns c = told-numbers _ _ _ _ _ _ c.join.ensures c.tell.ensures
