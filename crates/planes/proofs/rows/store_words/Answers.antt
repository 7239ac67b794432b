-- `planes::rows::store_words` meets its contract. The loops' invariants: 8 g bytes, and then k bytes, of each row are stored.
-- Assumes nothing.
use native.Mathlib.Omega.{arith}
use mathlib.Core.Path.{◌≡◌, ◌∙◌}
use Prim.Native.Nat.{◌+◌, ◌*◌}
use Rattle.planes.proofs.Turning.{store-more, store-none, store-turn}
use Rattle.planes.proofs.rows.store_words.Goals as goal

pub loop-g-init : goal.loop-g-init
loop-g-init c = store-none _ _ _ _ _ _

pub loop-g-preserved : goal.loop-g-preserved
loop-g-preserved c =
    let g = c.loop-g.g in
    let e : 8 * (g + 1) ≡ 8 * g + 8 = omega arith in
    rw e (c.store_eight.ensures ∙ store-more _ _ _ _ _ _ _ _ 8 c.loop-g.invariant)

pub loop-k-preserved : goal.loop-k-preserved
loop-k-preserved c = store-turn _ _ _ _ _ _ _ _ _ c.loop-k.invariant c.turn.ensures
