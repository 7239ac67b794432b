-- `masks::rows::add_row` meets its contract. The loop's invariant: j bytes are added.
-- Assumes nothing.
use native.Mathlib.Omega.{arith}
use mathlib.Core.Path.{refl}
use Rattle.masks.proofs.Adding.{add_turn}
use Rattle.masks.proofs.rows.add_row.Goals as goal

pub loop-j-preserved : goal.loop-j-preserved
loop-j-preserved c = add_turn _ _ _ _ _ _ _ c.loop-j.invariant (omega arith) refl refl
