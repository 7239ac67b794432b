-- `stepping::masters::master_of` meets its contract.
-- Assumes nothing.
use native.Mathlib.Omega.{arith}
use Rattle.proof.proofs.Leaves.{masters-low}
use Rattle.stepping.proofs.Paths.{masters-inside, master-chosen, master-path}
use Rattle.stepping.proofs.masters.master_of.Goals as goal

pub returns-then-chosen : goal.returns-then-chosen
returns-then-chosen c = master-chosen _ _ _ c.if-chosen.true

pub height-h-requires : goal.height-h-requires
height-h-requires c = c.requires.0

pub leaves-requires : goal.leaves-requires
leaves-requires c = omega (arith, c.height-h.ensures, masters-low c.args.m c.requires.0)

pub overflow_add-x : goal.overflow_add-x
overflow_add-x c = omega (arith, masters-inside c.args.m c.args.j _ _ c.requires.0 c.requires.1.0 c.height-h.ensures c.leaves.ensures)

pub overflow_add-h : goal.overflow_add-h
overflow_add-h c = omega (arith, c.height-h.ensures, masters-low c.args.m c.requires.0)

pub from_above-requires : goal.from_above-requires
from_above-requires c =
    let w = masters-inside c.args.m c.args.j _ _ c.requires.0 c.requires.1.0 c.height-h.ensures c.leaves.ensures in
    (c.requires.1.1.1, (omega (arith, w, c.requires.1.1.0), omega (arith, w, c.requires.1.1.0)))

pub returns : goal.returns
returns c = master-path _ _ _ _ _ _ _ _ _ c.if-chosen.false c.height-h.ensures c.leaves.ensures c.from_above.ensures
