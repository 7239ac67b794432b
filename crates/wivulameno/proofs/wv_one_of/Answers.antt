-- `wivulameno::wv_one_of` meets its contract.
-- Assumes nothing.
use Rattle.wivulameno.proofs.Statuses.{told-numbers}
use Rattle.wivulameno.proofs.wv_one_of.Goals as goal

pub returns : goal.returns
returns c = told-numbers _ _ _ _ _ _ c.one_of.ensures c.tell.ensures
