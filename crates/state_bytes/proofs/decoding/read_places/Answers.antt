-- `state_bytes::decoding::read_places` meets its contract.
-- Assumes nothing.
use Rattle.state_bytes.proofs.Filled.{places-made}
use Rattle.state_bytes.proofs.decoding.read_places.Goals as goal

pub returns : goal.returns
returns c = places-made _ _ _ _ _ _ c.read_place.ensures c.read_place-2.ensures c.read_place-3.ensures c.read_place-4.ensures
