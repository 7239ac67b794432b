-- `small::write_front` meets its contract.
-- Assumes nothing.
use Rattle.small.proofs.Writes.{front-written}
use Rattle.small.proofs.write_front.Goals as goal

pub returns : goal.returns
returns c = let x = c.args in
    front-written x.out.now _ _ x.inputs x.gates x.head x.output c.write_four.ensures c.write_u32.ensures
