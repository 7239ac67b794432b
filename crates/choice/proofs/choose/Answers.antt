-- `choice::choose` meets its contract: the new instance in the room made for it.
-- Assumes nothing.
use Rattle.choice.proofs.Choosing.{room-put}
use Rattle.choice.proofs.choose.Goals as goal

pub returns : goal.returns
returns c =
    let x = c.args in
    λ f e w. room-put x.t x.x x.chosen.now c.make_room-k.result c.make_room-k.new.chosen f c.requires.0 c.make_room-k.ensures e w
