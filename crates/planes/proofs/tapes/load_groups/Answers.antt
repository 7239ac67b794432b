-- `planes::tapes::load_groups` meets its contract. The invariant: g groups of rows are loaded.
-- Assumes nothing.
use native.Mathlib.Omega.{arith}
use Rattle.planes.proofs.Turning.{group-within, tapes-none}
use Rattle.planes.proofs.Within.{groups-within-turn}
use Rattle.planes.proofs.tapes.load_groups.Goals as goal

pub loop-g-init : goal.loop-g-init
loop-g-init c = tapes-none _ _ _ _ _

pub load_words-requires : goal.load_words-requires
load_words-requires c =
    let x = c.args in
    let r = c.rows_in.ensures in
    (r.1.0, (omega (arith, group-within x.n c.loop-g.g c.rows_in.result x.len r.1.1), omega arith))

pub loop-g-preserved : goal.loop-g-preserved
loop-g-preserved c = groups-within-turn _ _ _ _ _ _ _ _ _ (omega arith) (omega arith) c.rows_in.ensures.0 c.loop-g.invariant c.load_words.ensures
