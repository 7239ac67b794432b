-- `bits::copy` meets its contract: the loop's invariant is that the first k bytes are copied.
-- Assumes nothing.
use native.Mathlib.Omega.{arith}
use mathlib.Core.Path.{refl}
use lib.ListN.{length-set}
use Rattle.bits.proofs.Copies.{copy_more, copy-end}
use Rattle.bits.proofs.copy.Goals as goal

pub loop-k-preserved : goal.loop-k-preserved
loop-k-preserved c =
    let l = c.loop-k in
    (rw length-set l.invariant.0, copy_more _ l.to l.k (omega arith) l.invariant.0 l.invariant.1)

pub returns : goal.returns
returns c = copy-end _ _ c.loop-k.k (omega arith) c.loop-k.invariant.0 c.loop-k.invariant.1
