-- `state_bytes::writing::write_sponge` meets its contract.
-- Assumes nothing.
use Rattle.state_bytes.proofs.Written.{sponge-written}
use Rattle.state_bytes.proofs.writing.write_sponge.Goals as goal

pub returns : goal.returns
returns c = sponge-written _ _ _ _ c.write_lanes.ensures
