-- `wivulameno::wv_replay` meets its contract.
-- Assumes nothing.
use Rattle.wivulameno.proofs.Statuses.{said}
use Rattle.wivulameno.proofs.wv_replay.Goals as goal

pub returns : goal.returns
returns c = said _ _ _ _ c.replay.ensures c.status.ensures
