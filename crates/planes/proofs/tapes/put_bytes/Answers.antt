-- `planes::tapes::put_bytes` meets its contract. The loop's invariant: the bits of k bytes are put.
-- Assumes nothing.
use mathlib.Core.Path.{refl}
use Rattle.planes.proofs.Turning.{put-none, put-bytes-turn}
use Rattle.planes.proofs.tapes.put_bytes.Goals as goal

pub loop-k-init : goal.loop-k-init
loop-k-init c = put-none _ _ _ _

pub loop-k-preserved : goal.loop-k-preserved
loop-k-preserved c = put-bytes-turn _ _ _ _ _ _ _ _ c.loop-k.invariant refl c.put_byte.ensures
