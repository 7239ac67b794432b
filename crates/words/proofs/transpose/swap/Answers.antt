-- `words::transpose::swap` meets its contract: the definition is what the code does.
-- Assumes nothing.
use Rattle.words.specs.Steps.{swapped}
use mathlib.Core.Path.{refl}
use Rattle.words.proofs.transpose.swap.Goals as goal

pub returns : goal.returns
unfolding swapped
returns c = refl
