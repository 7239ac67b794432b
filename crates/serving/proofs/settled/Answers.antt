-- `serving::settled` meets its contract.
-- Assumes nothing.
use mathlib.Core.Path.{refl}
use Rattle.serving.proofs.settled.Goals as goal

pub returns : goal.returns
returns c = refl
