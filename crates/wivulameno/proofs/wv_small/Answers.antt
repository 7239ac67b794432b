-- `wivulameno::wv_small` meets its contract.
-- Assumes nothing.
use Rattle.wivulameno.proofs.SmallStatuses.{small-done, small-refused}
use Rattle.wivulameno.proofs.wv_small.Goals as goal

pub returns-in-Ok : goal.returns-in-Ok
returns-in-Ok c = small-done _ _ _ _ _ _ c.in-Ok.is c.small.ensures c.unwrap_or.ensures

pub returns-in-Err : goal.returns-in-Err
returns-in-Err c = small-refused _ _ _ _ _ _ c.in-Err.is c.small.ensures c.into.ensures
