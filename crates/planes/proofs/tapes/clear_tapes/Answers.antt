-- `planes::tapes::clear_tapes` meets its contract.
-- Assumes nothing.
use Rattle.planes.proofs.Turning.{tapes-cleared}
use Rattle.planes.proofs.tapes.clear_tapes.Goals as goal

pub returns : goal.returns
returns c =
    let x = c.args in
    tapes-cleared x.l x.memory.now _ _ _ c.tape_at-to.ensures c.tape_words.ensures c.clear_part.ensures
