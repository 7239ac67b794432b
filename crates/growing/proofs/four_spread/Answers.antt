-- `growing::four_spread` meets its contract: the four rows from row k on, and the part of nodes 2k to 2k + 7.
-- Assumes nothing.
use Rattle.growing.proofs.Spreading.{four-put}
use Rattle.growing.proofs.four_spread.Goals as goal

pub returns : goal.returns
returns c =
    let o = c in
    let x = o.args in
    four-put x.j x.k x.nodes.now _ _ o.requires.0 o.requires.1.1 c.copy.ensures c.four_children.ensures
