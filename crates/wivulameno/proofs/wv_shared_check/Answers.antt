-- `wivulameno::wv_shared_check` meets its contract.
-- Assumes nothing.
use Rattle.wivulameno.proofs.Statuses.{check_done, check-refused}
use Rattle.wivulameno.proofs.wv_shared_check.Goals as goal

pub returns-in-Ok : goal.returns-in-Ok
returns-in-Ok c =
    let d = check_done _ _ _ _ c.in-Ok.is c.check.ensures.0 in
    (d.0, (d.1, c.check.ensures.1))

pub returns-in-Err : goal.returns-in-Err
returns-in-Err c =
    let d = check-refused _ _ _ _ _ c.in-Err.is c.check.ensures.0 c.into.ensures in
    (d.0, (d.1, c.check.ensures.1))
