-- `planes::tapes::put_held_bytes` meets its contract. The loop's invariant: the bits of k bytes are put.
-- Assumes nothing.
use native.Mathlib.Omega.{arith}
use mathlib.Core.Path.{refl}
use Rattle.planes.proofs.Turning.{put-none}
use Rattle.planes.proofs.Within.{put-held-turn}
use Rattle.planes.proofs.tapes.put_held_bytes.Goals as goal

pub loop-k-init : goal.loop-k-init
loop-k-init c = put-none _ _ _ _

pub loop-k-preserved : goal.loop-k-preserved
loop-k-preserved c = put-held-turn _ _ _ _ _ _ _ _ (omega arith) c.loop-k.invariant refl c.put_byte.ensures
