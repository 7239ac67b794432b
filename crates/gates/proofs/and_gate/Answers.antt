-- `gates::and_gate` meets its contract.
-- Assumes nothing.
use Rattle.gates.proofs.Steps.{and-done}
use Rattle.gates.proofs.and_gate.Goals as goal

pub returns : goal.returns
returns c =
    let x = c.args in
    and-done x.l x.a x.b x.c x.t _ _ x.hidden _ _ _ _ _ _ _ _ x.memory.now _ _ _ c.mask_word-o.ensures c.broadcast_word-z.ensures
    c.masked-ma.ensures c.masked-mb.ensures c.share-sa.ensures c.share-sb.ensures c.tape-masks.ensures c.tape-products.ensures
    c.and_gate-r.ensures.word_value c.and_gate-r.ensures.masked_value c.put_tape.ensures c.put_share.ensures c.put_masked.ensures
