-- `planes::places::put_share` meets its contract.
-- Assumes nothing.
use Rattle.planes.specs.Steps.{put_share}
use Rattle.planes.proofs.places.put_share.Goals as goal

pub returns : goal.returns
unfolding put_share
returns c = c.write_u64.ensures
