-- `planes::places::share` meets its contract.
-- Assumes nothing.
use Rattle.planes.specs.Steps.{share}
use Rattle.planes.proofs.places.share.Goals as goal

pub returns : goal.returns
unfolding share
returns c = c.read_u64.ensures
