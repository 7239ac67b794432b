-- `growing::mark` meets its contract: from the last node down, every node from k on has its mark.
-- Assumes nothing.
use Rattle.growing.proofs.Marking.{marked-none, marked_more, marked_all}
use native.Mathlib.Omega.{arith}
use mathlib.Core.Path.{refl}
use lib.ListN.{length-set}
use Rattle.growing.proofs.mark.Goals as goal

pub loop-k-init : goal.loop-k-init
loop-k-init c = (refl, marked-none _ _ _ _ _ _ (omega arith))

pub loop-k-preserved : goal.loop-k-preserved
loop-k-preserved c =
    let l = c.loop-k in
    (rw length-set l.invariant.0, marked_more _ _ _ _ l.marks _ l.k _ (omega arith) (omega arith) (omega arith) (omega arith) l.invariant.1 c.node_mark.ensures)

pub returns : goal.returns
returns c = let l = c.loop-k in marked_all _ _ _ _ l.marks l.k (omega arith) (omega arith) l.invariant.1
