-- `state_bytes::writing::write_slot` meets its contract.
-- Assumes nothing.
use native.Mathlib.Omega.{arith}
use Rattle.state_bytes.proofs.Written.{waiting-written, idle-written}
use lib.ListN.{length-set}
use Rattle.state_bytes.proofs.writing.write_slot.Goals as goal

pub write_job-requires : goal.write_job-requires
write_job-requires c = simp length-set (omega arith)

pub returns-then-waits : goal.returns-then-waits
returns-then-waits c = waiting-written _ _ _ _ _ c.if-waits.true c.write_job.ensures

pub returns-else-waits : goal.returns-else-waits
returns-else-waits c = idle-written _ _ _ _ _ c.if-waits.false c.requires c.clear.ensures
