-- `growing::take_value` meets its contract: a value for an opened node, zeros for any other.
-- Assumes nothing.
use Rattle.bits.proofs.Rows.{row-length}
use Rattle.growing.proofs.Following.{next-opened, next-other, value-inside, given-opened, given-other}
use native.Mathlib.Omega.{arith}
use mathlib.Core.Path.{sym, ap, ◌∙◌}
use lib.ListN.{length}
use Rattle.growing.proofs.take_value.Goals as goal

pub copy-requires : goal.copy-requires
copy-requires c =
    let x = c.args in
    let q = c.requires in
    let o = sym c.is_opened.ensures ∙ c.if-is_opened.true in
    q.1.1.1 ∙ sym (ap length c.row.ensures ∙ row-length x.values.now 16 x.n (value-inside x.marks.now x.values.now x.x x.n q.1.1.0 q.0 q.1.0 o))

pub overflow_add-result : goal.overflow_add-result
overflow_add-result c =
    let x = c.args in
    let q = c.requires in
    let o = sym c.is_opened.ensures ∙ c.if-is_opened.true in
    omega (arith, value-inside x.marks.now x.values.now x.x x.n q.1.1.0 q.0 q.1.0 o)

pub returns-then-is_opened : goal.returns-then-is_opened
returns-then-is_opened c =
    let x = c.args in
    let q = c.requires in
    let o = sym c.is_opened.ensures ∙ c.if-is_opened.true in
    (next-opened x.marks.now x.values.now x.x x.n q.1.1.0 o, given-opened x.marks.now x.values.now x.x x.n q.1.1.0 _ o (c.copy.ensures ∙ c.row.ensures))

pub returns : goal.returns
returns c =
    let x = c.args in
    let q = c.requires in
    let o = sym c.is_opened.ensures ∙ c.if-is_opened.false in
    (next-other x.marks.now x.values.now x.x x.n q.1.1.0 o, given-other x.marks.now x.values.now _ x.x _ o q.1.1.1 c.clear.ensures)
