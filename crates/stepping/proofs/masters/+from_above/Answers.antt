-- `stepping::masters::from_above` meets its contract: by the levels that are left.
-- Assumes nothing.
use mathlib.Core.Path.{sym, ap, ◌∙◌}
use native.Mathlib.Omega.{arith}
use lib.ListN.{length}
use Rattle.bits.specs.Bytes.{row_of}
use Rattle.bits.proofs.Rows.{row-length}
use Rattle.tree.proofs.Nodes.{falls-one}
use Rattle.cover.specs.Steps.{opened_by}
use Rattle.growing.proofs.Following.{value-inside}
use Rattle.stepping.proofs.Paths.{above-end, above-opened, above-child}
use Rattle.stepping.proofs.masters.+from_above.Goals as goal

pub returns-then-d-eq0 : goal.returns-then-d-eq0
returns-then-d-eq0 t c = above-end c.args.tree (opened_by c.args.marks.now) c.args.values.now c.args.d c.args.x c.if-d-eq0.true

pub is_opened-requires : goal.is_opened-requires
is_opened-requires t c = c.requires.1.0

pub opened_before-n-requires : goal.opened_before-n-requires
opened_before-n-requires t c = omega (arith, c.requires.1.0)

pub copy_from_slice-requires : goal.copy_from_slice-requires
copy_from_slice-requires t c = sym (ap length c.row.ensures ∙ row-length c.args.values.now 16 c.opened_before-n.result (value-inside c.args.marks.now c.args.values.now c.args.x c.opened_before-n.result c.opened_before-n.ensures c.requires.1.0 c.requires.0 (sym c.is_opened.ensures ∙ c.if-is_opened.true)))

pub returns-then-is_opened : goal.returns-then-is_opened
returns-then-is_opened t c = above-opened c.args.tree (opened_by c.args.marks.now) c.args.values.now c.args.d c.args.x c.if-d-eq0.false _ (sym c.is_opened.ensures ∙ c.if-is_opened.true) (c.copy_from_slice.ensures.after ∙ (c.row.ensures ∙ ap (row_of c.args.values.now 16) c.opened_before-n.ensures))

pub overflow_sub-d : goal.overflow_sub-d
overflow_sub-d t c = omega (arith, c.if-d-eq0.false)

pub from_above-requires : goal.from_above-requires
from_above-requires t c = (falls-one c.decreases (omega (arith, c.if-d-eq0.false)), (c.requires.0, (omega (arith, c.requires.1.0), c.requires.1.1)))

pub child-requires : goal.child-requires
child-requires t c = omega (arith, c.requires.1.0, c.requires.1.1)

pub returns : goal.returns
returns t c = above-child c.args.tree (opened_by c.args.marks.now) c.args.values.now c.args.d c.args.x c.if-d-eq0.false _ _ (sym c.is_opened.ensures ∙ c.if-is_opened.false) c.from_above.ensures c.child.ensures
