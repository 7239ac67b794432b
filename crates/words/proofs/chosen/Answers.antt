-- `words::chosen` meets its contract: the definition is what the code does.
-- Assumes nothing.
use Rattle.words.specs.Words.{chosen}
use mathlib.Core.Path.{refl}
use Rattle.words.proofs.chosen.Goals as goal

pub returns : goal.returns
unfolding chosen
returns c = refl
