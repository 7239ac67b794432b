-- `gates::inv_gate` meets its contract.
-- Assumes nothing.
use Rattle.gates.proofs.Steps.{inv-done}
use Rattle.gates.proofs.inv_gate.Goals as goal

pub returns : goal.returns
returns c =
    let x = c.args in
    inv-done x.l x.a x.c _ _ x.memory.now _ _ c.share-s.ensures c.masked-m.ensures c.put_share.ensures c.put_masked.ensures
