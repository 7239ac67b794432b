-- `keccak::state::byte_at` meets its contract: byte k is a shift and a remainder of its lane.
-- Assumes nothing.
use Rattle.keccak.specs.Steps.{byte_at}
use mathlib.Core.Path.{refl}
use Rattle.keccak.proofs.state.byte_at.Goals as goal

pub returns : goal.returns
unfolding byte_at
returns c = refl
