-- `wivulameno::wv_prove` meets its contract.
-- Assumes nothing.
use Rattle.wivulameno.proofs.Statuses.{told-numbers}
use Rattle.wivulameno.proofs.wv_prove.Goals as goal

pub returns : goal.returns
returns c = told-numbers _ _ _ _ _ _ c.prove.ensures c.tell.ensures
