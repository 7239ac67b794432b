-- `wivulameno::wv_upgrade` meets its contract.
-- Assumes nothing.
use Rattle.wivulameno.proofs.Statuses.{upgrade-done, upgrade-refused}
use Rattle.wivulameno.proofs.wv_upgrade.Goals as goal

pub returns-in-Ok : goal.returns-in-Ok
returns-in-Ok c = upgrade-done _ _ _ _ _ c.in-Ok.is c.upgrade.ensures

pub returns-in-Err : goal.returns-in-Err
returns-in-Err c = upgrade-refused _ _ _ _ _ _ c.in-Err.is c.upgrade.ensures c.into.ensures
