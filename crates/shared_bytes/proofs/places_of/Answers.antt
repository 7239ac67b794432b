-- `shared_bytes::places_of` meets its contract.
-- Assumes nothing.
use mathlib.Core.Path.{refl}
use Rattle.shared_bytes.specs.Operations.{places_of}
use Rattle.shared_bytes.proofs.places_of.Goals as goal

pub returns : goal.returns
unfolding places_of
returns c = refl
