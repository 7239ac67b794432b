-- `wivulameno::wv_challenge` meets its contract.
-- Assumes nothing.
use Rattle.wivulameno.proofs.Statuses.{said}
use Rattle.wivulameno.proofs.wv_challenge.Goals as goal

pub returns : goal.returns
returns c = said _ _ _ _ c.challenge.ensures c.status.ensures
