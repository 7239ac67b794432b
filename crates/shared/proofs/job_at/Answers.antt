-- `shared::job_at` meets its contract.
-- Assumes nothing.
use Rattle.shared.proofs.Slots.{job-made}
use Rattle.shared.proofs.job_at.Goals as goal

pub start_digests-requires : goal.start_digests-requires
start_digests-requires c = tt

pub returns : goal.returns
returns c = job-made c.args.places _ c.start_digests.ensures
