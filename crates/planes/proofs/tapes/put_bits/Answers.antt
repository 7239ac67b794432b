-- `planes::tapes::put_bits` meets its contract. The loop's invariant: t bits are put.
-- Assumes nothing.
use Rattle.planes.proofs.Turning.{put-turn}
use Rattle.planes.proofs.tapes.put_bits.Goals as goal

pub loop-t-preserved : goal.loop-t-preserved
loop-t-preserved c =
    put-turn _ _ _ _ _ _ _ _ _ _ _ c.loop-t.invariant c.read_u64-old.ensures c.bit.ensures c.every-new.ensures c.chosen-x.ensures c.write_u64.ensures
