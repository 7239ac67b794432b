-- `gates::xor_gate` meets its contract.
-- Assumes nothing.
use Rattle.gates.proofs.Steps.{xor-done}
use Rattle.gates.proofs.xor_gate.Goals as goal

pub returns : goal.returns
returns c =
    let x = c.args in
    xor-done x.l x.a x.b x.c _ _ _ _ x.memory.now _ _ c.share.ensures c.share-2.ensures c.masked.ensures c.masked-2.ensures c.put_share.ensures
    c.put_masked.ensures
