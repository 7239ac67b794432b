-- `state_bytes::decoding::read_place` meets its contract.
-- Assumes nothing.
use Rattle.state_bytes.proofs.Filled.{place-made}
use Rattle.state_bytes.proofs.decoding.read_place.Goals as goal

pub returns : goal.returns
returns c = place-made _ _ _ _ c.read_u64.ensures c.read_u64-2.ensures
