-- `wivulameno::wv_fault_slot` meets its contract.
-- Assumes nothing.
use Rattle.wivulameno.proofs.Statuses.{slot-legal, slot-refused, refused-small}
use Rattle.wivulameno.proofs.wv_fault_slot.Goals as goal

pub overflow_cast-result : goal.overflow_cast-result
overflow_cast-result c = record { fits = refused-small _ _ _ c.in-Err.is c.read.ensures }

pub returns-in-Ok : goal.returns-in-Ok
returns-in-Ok c = slot-legal _ _ c.in-Ok.is c.read.ensures

pub returns-in-Err : goal.returns-in-Err
returns-in-Err c = slot-refused _ _ _ c.in-Err.is c.read.ensures
