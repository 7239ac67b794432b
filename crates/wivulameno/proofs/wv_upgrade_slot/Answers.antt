-- `wivulameno::wv_upgrade_slot` meets its contract.
-- Assumes nothing.
use Rattle.wivulameno.proofs.Statuses.{upgrade-slotless, upgrade_slot, upgrade-small}
use Rattle.wivulameno.proofs.wv_upgrade_slot.Goals as goal

pub overflow_cast-result : goal.overflow_cast-result
overflow_cast-result c = record { fits = upgrade-small _ _ _ _ _ c.in-Err.is c.upgrade.ensures }

pub returns-in-Ok : goal.returns-in-Ok
returns-in-Ok c = upgrade-slotless _ _ _ c.in-Ok.is c.upgrade.ensures

pub returns-in-Err : goal.returns-in-Err
returns-in-Err c = upgrade_slot _ _ _ _ c.in-Err.is c.upgrade.ensures
