-- `shared::start` meets its contract.
-- Assumes nothing.
use Rattle.shared.proofs.Slots.{start-empty}
use Rattle.shared.proofs.start.Goals as goal

pub job_at-job-requires : goal.job_at-job-requires
job_at-job-requires c = tt

pub returns : goal.returns
returns c = start-empty _
