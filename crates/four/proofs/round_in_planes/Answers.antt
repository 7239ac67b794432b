-- `four::round_in_planes` meets its contract: the five planes, and the constant.
-- Assumes nothing.
use Rattle.four.proofs.States.{planes-joined}
use Rattle.four.proofs.round_in_planes.Goals as goal

pub returns : goal.returns
returns c =
    planes-joined _ _ _ _ _ _ _ c.plane-p.ensures c.plane-q.ensures c.plane-r.ensures
    c.plane-s.ensures c.plane-t.ensures
