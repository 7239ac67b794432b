-- `four::permute4` meets its contract. The invariant: the states are those after ir rounds.
-- Assumes nothing.
use native.Mathlib.Omega.{arith}
use mathlib.Core.Path.{ap, ◌∙◌}
use lib.ListN.{length}
use Rattle.four.proofs.States.{each-length, four-none, four-more}
use Rattle.four.proofs.permute4.Goals as goal

pub loop-ir-init : goal.loop-ir-init
loop-ir-init c = four-none _ c.requires.0 c.requires.1

pub round4-requires : goal.round4-requires
round4-requires c = (omega arith, ap length c.loop-ir.invariant ∙ each-length _ _)

pub loop-ir-preserved : goal.loop-ir-preserved
loop-ir-preserved c =
    let l = c.loop-ir in
    four-more _ _ _ _ l.invariant c.round4.ensures
