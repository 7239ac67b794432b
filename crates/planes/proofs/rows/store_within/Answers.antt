-- `planes::rows::store_within` meets its contract. The loops' invariants: 8 g bytes, and then k bytes, of each row are stored.
-- Assumes nothing.
use native.Mathlib.Omega.{arith}
use mathlib.Core.Path.{◌≡◌}
use Prim.Native.Nat.{◌+◌, ◌*◌}
use Rattle.planes.proofs.Turning.{store-none}
use Rattle.planes.proofs.Within.{store-block-turn, store-within-turn}
use Rattle.planes.proofs.rows.store_within.Goals as goal

pub loop-g-init : goal.loop-g-init
loop-g-init c = store-none _ _ _ _ _ _

pub loop-g-preserved : goal.loop-g-preserved
loop-g-preserved c =
    let g = c.loop-g.g in
    let e : 8 * (g + 1) ≡ 8 * g + 8 = omega arith in
    rw e (store-block-turn _ _ _ _ _ _ _ _ (omega arith) (omega arith) c.loop-g.invariant c.store_eight_within.ensures)

pub loop-k-preserved : goal.loop-k-preserved
loop-k-preserved c = store-within-turn _ _ _ _ _ _ _ _ (omega arith) (omega arith) c.loop-k.invariant c.turn_within.ensures
