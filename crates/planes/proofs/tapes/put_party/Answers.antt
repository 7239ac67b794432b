-- `planes::tapes::put_party` meets its contract.
-- Assumes nothing.
use Rattle.planes.proofs.Turning.{party-put}
use Rattle.planes.proofs.tapes.put_party.Goals as goal

pub returns : goal.returns
returns c =
    let x = c.args in
    party-put x.l x.q x.p _ _ x.row.now x.count x.memory.now _ c.tape_at-to.ensures c.place.ensures c.put_bits.ensures
