-- `wivulameno::wv_read` meets its contract.
-- Assumes nothing.
use Rattle.wivulameno.proofs.Statuses.{legal-small, read_done, read-refused}
use Rattle.wivulameno.proofs.wv_read.Goals as goal

pub overflow_cast-sizes : goal.overflow_cast-sizes
overflow_cast-sizes c = record { fits = (legal-small _ _ _ c.in-Ok.is c.read.ensures).0 }

pub overflow_cast-sizes-in-Ok : goal.overflow_cast-sizes-in-Ok
overflow_cast-sizes-in-Ok c = record { fits = (legal-small _ _ _ c.in-Ok.is c.read.ensures).1.0 }

pub overflow_cast-sizes-in-Ok-2 : goal.overflow_cast-sizes-in-Ok-2
overflow_cast-sizes-in-Ok-2 c = record { fits = (legal-small _ _ _ c.in-Ok.is c.read.ensures).1.1.0 }

pub overflow_cast-sizes-in-Ok-3 : goal.overflow_cast-sizes-in-Ok-3
overflow_cast-sizes-in-Ok-3 c = record { fits = (legal-small _ _ _ c.in-Ok.is c.read.ensures).1.1.1 }

pub returns-in-Ok : goal.returns-in-Ok
returns-in-Ok c = read_done _ _ _ _ c.in-Ok.is c.read.ensures

pub returns-in-Err : goal.returns-in-Err
returns-in-Err c = read-refused _ _ _ _ _ c.in-Err.is c.read.ensures c.into.ensures
