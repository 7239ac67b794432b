-- `gates::output` meets its contract.
-- Assumes nothing.
use Rattle.gates.proofs.Steps.{output-done, value-done}
use Rattle.gates.proofs.output.Goals as goal

pub returns : goal.returns
returns c =
    let x = c.args in
    let z = c.broadcast_word-z.ensures in
    let s = c.share-s.ensures in
    let shown = c.tape-shown.ensures in
    let w = c.chosen-word.ensures in record {
      memory_after = output-done x.l x.w x.t _ x.hidden _ _ _ x.memory.now _ z s shown w c.put_tape.ensures;
      value = value-done x.l x.w x.t _ x.hidden _ _ _ _ _ x.memory.now z c.masked-m.ensures s shown w c.parity.ensures;
    }
