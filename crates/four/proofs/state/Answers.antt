-- `four::state` meets its contract: 25 lanes read.
-- Assumes nothing.
use mathlib.Core.Path.{refl}
use Rattle.four.specs.Steps.{state_of}
use Rattle.four.proofs.state.Goals as goal

pub returns : goal.returns
unfolding state_of
returns c = refl
