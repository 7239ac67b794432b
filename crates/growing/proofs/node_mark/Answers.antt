-- `growing::node_mark` meets its contract: a case for each test.
-- Assumes nothing.
use Rattle.growing.proofs.Marking.{mark-of-leaf, mark-of-none, mark-of-pair}
use mathlib.Core.Path.{◌∙◌}
use Rattle.growing.proofs.node_mark.Goals as goal

pub returns-then-k-leaves : goal.returns-then-k-leaves
returns-then-k-leaves c = c.leaf_mark.ensures ∙ mark-of-leaf _ _ _ _ _ _ c.if-k-leaves.true

pub returns-then-k-eq0 : goal.returns-then-k-eq0
returns-then-k-eq0 c = mark-of-none _ _ _ _ _ _ c.if-k-leaves.false c.if-k-eq0.true

pub returns : goal.returns
returns c = mark-of-pair _ _ _ _ _ _ c.if-k-leaves.false c.if-k-eq0.false
