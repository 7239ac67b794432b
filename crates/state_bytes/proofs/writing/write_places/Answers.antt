-- `state_bytes::writing::write_places` meets its contract.
-- Assumes nothing.
use Rattle.state_bytes.proofs.Written.{places-written}
use Rattle.state_bytes.proofs.writing.write_places.Goals as goal

pub returns : goal.returns
returns c = places-written _ _ _ _ _ _ _ c.write_place.ensures c.write_place-2.ensures c.write_place-3.ensures c.write_place-4.ensures
