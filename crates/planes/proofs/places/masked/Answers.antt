-- `planes::places::masked` meets its contract.
-- Assumes nothing.
use mathlib.Core.Path.{ap}
use Rattle.planes.specs.Steps.{masked}
use Rattle.words.specs.Steps.{at}
use Rattle.planes.proofs.places.masked.Goals as goal

pub returns : goal.returns
unfolding masked
returns c = ap (at c.args.memory.now) c.masked_at.ensures
