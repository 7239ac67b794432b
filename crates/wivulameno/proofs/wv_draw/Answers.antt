-- `wivulameno::wv_draw` meets its contract.
-- Assumes nothing.
use Rattle.wivulameno.proofs.Statuses.{draw-done, draw-refused}
use Rattle.wivulameno.proofs.wv_draw.Goals as goal

pub returns-in-Ok : goal.returns-in-Ok
returns-in-Ok c = draw-done _ _ _ _ _ c.in-Ok.is c.draw.ensures

pub returns-in-Err : goal.returns-in-Err
returns-in-Err c = draw-refused _ _ _ _ _ _ c.in-Err.is c.draw.ensures c.into.ensures
