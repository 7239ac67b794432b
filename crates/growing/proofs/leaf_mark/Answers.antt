-- `growing::leaf_mark` meets its contract: a case for each test.
-- Assumes nothing.
use Rattle.growing.proofs.Marking.{mark-spare, mark-shown, mark-hid}
use Rattle.growing.proofs.leaf_mark.Goals as goal

pub returns-then-i-m : goal.returns-then-i-m
returns-then-i-m c = mark-spare _ _ _ _ c.if-i-m.true

pub returns-then-table-i : goal.returns-then-table-i
returns-then-table-i c = mark-shown _ _ _ _ c.if-i-m.false c.if-table-i.true

pub returns-else-table-i : goal.returns-else-table-i
returns-else-table-i c = mark-hid _ _ _ _ c.if-i-m.false c.if-table-i.false
