-- `tree::grandchildren` meets its contract: the children of the left child, then those of the right one.
-- Assumes nothing.
use native.Mathlib.Omega.{arith}
use mathlib.Core.Path.{sym, ◌∙◌}
use lib.Seq.{length-take-le}
use Rattle.tree.proofs.FourLeaves.{grand-joined}
use Rattle.tree.proofs.Nodes.{left-length}
use Rattle.tree.proofs.grandchildren.Goals as goal

pub slice_bounds-children-end-2 : goal.slice_bounds-children-end-2
slice_bounds-children-end-2 c = sym (left-length c.children.new.out c.children.auto.out)

pub slice_bounds-children-end-4 : goal.slice_bounds-children-end-4
slice_bounds-children-end-4 c = sym (length-take-le 32 c.args.out.now (omega (arith, c.requires.1)))

pub children-requires-2 : goal.children-requires-2
children-requires-2 c = length-take-le 32 c.args.out.now (omega (arith, c.requires.1))

pub returns : goal.returns
returns c =
    let o = c in
    let x = o.args in
    grand-joined x.j x.k x.value.now _ x.out.now _ _ c.children.ensures
    (c.children-2.auto.out ∙ length-take-le 32 x.out.now (omega (arith, o.requires.1)))
    c.children-2.ensures c.children-3.ensures
