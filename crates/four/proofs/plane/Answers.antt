-- `four::plane` meets its contract: five lanes of the state after four steps.
-- Assumes nothing.
use mathlib.Core.List.{List, [], ◌∷◌}
use mathlib.Core.Path.{◌≡◌, ap, ◌∙◌}
use native.Mathlib.Omega.{arith}
use Prim.Native.Nat.{ℕ, ◌+◌, ◌*◌}
use lib.ListN.{get_or}
use Rattle.four.specs.Steps.{plane}
use Rattle.four.proofs.States.{stepped-is}
use Rattle.four.proofs.plane.Goals as goal

-- the lanes of a plane one by one
plane-is : (Y : ℕ) (b : List ℕ)
    → get_or b (5 * Y) 0 ∷ get_or b (5 * Y + 1) 0 ∷ get_or b (5 * Y + 2) 0 ∷ get_or b (5 * Y + 3) 0 ∷ get_or b (5 * Y + 4) 0 ∷ [] ≡ plane Y b
unfolding plane
plane-is Y b = let e : 5 * Y + 0 ≡ 5 * Y = omega arith in rw e

pub returns : goal.returns
returns g c =
    plane-is g.row.Y _
    ∙ ap (plane g.row.Y) (stepped-is _ _ _ _ _ c.theta.ensures c.rho.ensures c.pi.ensures c.chi-b.ensures)
