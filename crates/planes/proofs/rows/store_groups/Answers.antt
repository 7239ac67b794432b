-- `planes::rows::store_groups` meets its contract. The invariant: g groups of rows are stored.
-- Assumes nothing.
use native.Mathlib.Omega.{arith}
use Rattle.planes.proofs.Turning.{group-within, stored-none, stored-turn}
use Rattle.planes.proofs.rows.store_groups.Goals as goal

pub loop-g-init : goal.loop-g-init
loop-g-init c = stored-none _ _ _ _ _

pub store_words-requires : goal.store_words-requires
store_words-requires c =
    let x = c.args in
    let r = c.rows_in.ensures in
    (r.1.0, (omega arith, omega (arith, group-within x.n c.loop-g.g c.rows_in.result x.len r.1.1)))

pub loop-g-preserved : goal.loop-g-preserved
loop-g-preserved c = stored-turn _ _ _ _ _ _ _ _ _ c.rows_in.ensures.0 c.loop-g.invariant c.store_words.ensures
