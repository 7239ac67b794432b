-- `masks::rows::add_rows` meets its contract. The loop's invariant: i rows are added.
-- Assumes nothing.
use native.Mathlib.Omega.{arith}
use Rattle.bits.proofs.Rows.{row_fits}
use Rattle.masks.proofs.Adding.{row-added, sum-none}
use Rattle.masks.proofs.rows.add_rows.Goals as goal

pub loop-i-init : goal.loop-i-init
loop-i-init c = sum-none _ _ _ _ _ c.clear_part.ensures

pub loop-i-preserved : goal.loop-i-preserved
loop-i-preserved c =
    let x = c.args in
    let i = c.loop-i.i in
    row-added _ _ _ x.a x.len x.to i (omega arith) (omega (arith, row_fits x.n x.len i (omega arith))) c.loop-i.invariant c.add_row.ensures
