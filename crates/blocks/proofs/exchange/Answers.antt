-- `blocks::exchange` meets its contract: the definition is what the code does.
-- Assumes nothing.
use mathlib.Core.Path.{refl}
use Rattle.blocks.specs.Steps.{exchanged_pair, exchanged}
use Rattle.blocks.proofs.exchange.Goals as goal

pub returns : goal.returns
unfolding exchanged exchanged_pair
returns c = refl
