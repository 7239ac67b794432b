-- `keccak::sponge::Sponge::new` meets its contract.
-- Assumes nothing.
use Rattle.keccak.specs.Steps.{empty}
use mathlib.Core.Path.{refl}
use Rattle.keccak.proofs.sponge.Sponge.new.Goals as goal

pub returns : goal.returns
unfolding empty
returns c = refl
