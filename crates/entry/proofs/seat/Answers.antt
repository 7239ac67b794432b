-- `entry::seat` meets its contract.
-- Assumes nothing.
use Rattle.shared.proofs.Slots.{seat-made}
use Rattle.entry.proofs.seat.Goals as goal

pub set_flag-waiting-requires : goal.set_flag-waiting-requires
set_flag-waiting-requires c = c.requires

pub put_job-jobs-requires : goal.put_job-jobs-requires
put_job-jobs-requires c = c.requires

pub returns : goal.returns
returns c = seat-made c.args.s c.args.i c.args.job _ _ c.requires c.set_flag-waiting.ensures c.put_job-jobs.ensures
