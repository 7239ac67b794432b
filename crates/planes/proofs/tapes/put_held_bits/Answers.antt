-- `planes::tapes::put_held_bits` meets its contract. The loop's invariant: t bits are put.
-- Assumes nothing.
use native.Mathlib.Omega.{arith}
use Rattle.planes.proofs.Within.{put-within-turn}
use Rattle.planes.proofs.tapes.put_held_bits.Goals as goal

pub loop-t-preserved : goal.loop-t-preserved
loop-t-preserved c =
    put-within-turn _ _ _ _ _ _ _ _ _ _ _ (omega arith) c.loop-t.invariant c.read_u64-old.ensures c.bit.ensures c.every-new.ensures c.chosen-x.ensures
    c.write_u64.ensures
