-- `state_bytes::writing::write_job` meets its contract.
-- Assumes nothing.
use Rattle.state_bytes.proofs.Written.{job-written}
use Rattle.state_bytes.proofs.writing.write_job.Goals as goal

pub returns : goal.returns
returns c = job-written _ _ _ _ _ _ _ c.write_places.ensures c.write_u32.ensures c.write_sponge.ensures c.write_sponge-2.ensures
