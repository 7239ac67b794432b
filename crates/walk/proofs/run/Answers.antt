-- `walk::run` meets its contract.
-- Assumes nothing.
use Rattle.walk.proofs.Turns.{ready, ended, outputs-done, values-done}
use Rattle.walk.proofs.run.Goals as goal

pub walk-requires : goal.walk-requires
walk-requires c = ready _ _ _ _ c.requires _ c.head.ensures

pub broadcast_outputs-requires : goal.broadcast_outputs-requires
broadcast_outputs-requires c = ended _ _ _ _ c.requires _ c.walk.auto.memory

pub returns : goal.returns
returns c =
    let x = c.args in
    let b = c.broadcast_outputs.ensures in record {
      memory_after = outputs-done x.s.now x.z x.hidden _ x.memory.now _ _ c.head.ensures c.walk.ensures b.memory_after;
      y_after = values-done x.s.now x.z x.hidden _ x.memory.now _ _ c.head.ensures c.walk.ensures b.y_after;
    }
