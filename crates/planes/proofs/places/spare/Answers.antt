-- `planes::places::spare` meets its contract.
-- Assumes nothing.
use Rattle.std.proofs.Common.{rules}
use Rattle.planes.specs.Steps.{spare}
use Rattle.planes.proofs.places.spare.Goals as goal

pub returns : goal.returns
unfolding spare
returns c = search rules
