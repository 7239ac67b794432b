-- `planes::tapes::load_words` meets its contract. The loops' invariants: 8 g bytes, and then k bytes, of each row are in the words.
-- Assumes nothing.
use native.Mathlib.Omega.{arith}
use mathlib.Core.Path.{◌≡◌}
use Prim.Native.Nat.{◌+◌, ◌*◌}
use Rattle.planes.proofs.Turning.{load-none}
use Rattle.planes.proofs.Within.{load-block-turn, load-within-turn}
use Rattle.planes.proofs.tapes.load_words.Goals as goal

pub loop-g-init : goal.loop-g-init
loop-g-init c = load-none _ _ _ _ _ _

pub loop-g-preserved : goal.loop-g-preserved
loop-g-preserved c =
    let g = c.loop-g.g in
    let e : 8 * (g + 1) ≡ 8 * g + 8 = omega arith in
    rw e (load-block-turn _ _ _ _ _ _ _ _ (omega arith) (omega arith) c.loop-g.invariant c.load_block.ensures)

pub loop-k-preserved : goal.loop-k-preserved
loop-k-preserved c = load-within-turn _ _ _ _ _ _ _ _ (omega arith) (omega arith) c.loop-k.invariant c.turn_rows.ensures
