-- `state_bytes::writing::write_place` meets its contract.
-- Assumes nothing.
use Rattle.state_bytes.proofs.Written.{place-written}
use Rattle.state_bytes.proofs.writing.write_place.Goals as goal

pub returns : goal.returns
returns c = place-written _ _ _ _ _ c.write_u64.ensures c.write_u64-2.ensures
