-- `planes::tapes::put_byte` meets its contract. The loop's invariant: t bits are put.
-- Assumes nothing.
use native.Mathlib.Omega.{arith}
use Rattle.planes.proofs.Turning.{put-none, put-byte-turn}
use Rattle.planes.proofs.tapes.put_byte.Goals as goal

pub loop-t-init : goal.loop-t-init
loop-t-init c = put-none _ _ _ _

pub loop-t-preserved : goal.loop-t-preserved
loop-t-preserved c =
    put-byte-turn _ _ _ _ _ _ _ _ _ _ (omega arith) c.loop-t.invariant c.read_u64-old.ensures c.every-new.ensures c.chosen-y.ensures c.write_u64.ensures
