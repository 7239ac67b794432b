-- `state_bytes::decoding::read_job` meets its contract.
-- Assumes nothing.
use Rattle.state_bytes.proofs.Filled.{job-made}
use Rattle.state_bytes.proofs.decoding.read_job.Goals as goal

pub returns : goal.returns
returns c = job-made _ _ _ _ _ _ c.read_places.ensures c.read_u32.ensures c.read_sponge-commitments.ensures c.read_sponge-online.ensures
