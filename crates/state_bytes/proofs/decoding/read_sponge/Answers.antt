-- `state_bytes::decoding::read_sponge` meets its contract.
-- Assumes nothing.
use mathlib.Core.Path.{refl}
use Rattle.state_bytes.proofs.Filled.{sponge-made}
use Rattle.state_bytes.proofs.decoding.read_sponge.Goals as goal

pub returns : goal.returns
returns c = sponge-made _ _ _ _ c.read_lanes-lanes.ensures refl
