-- `shared::entering::all_inside` meets its contract.
-- Assumes nothing.
use native.Mathlib.Omega.{arith}
use Rattle.shared.specs.Service.{all_inside}
use Rattle.shared.proofs.entering.all_inside.Goals as goal

pub returns-then-inside-3 : goal.returns-then-inside-3
unfolding all_inside
returns-then-inside-3 c = grind arith

pub returns-else-inside-3 : goal.returns-else-inside-3
unfolding all_inside
returns-else-inside-3 c = grind arith
