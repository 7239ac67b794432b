-- `bristol_text::read_field` meets its contract: by cases of what is read.
-- Assumes nothing.
use mathlib.Core.Path.{sym, ◌∙◌}
use Rattle.bristol_text.proofs.Followed.{field-none, field_end, field-space}
use Rattle.bristol_text.proofs.read_field.Goals as goal

pub returns-in_err-n : goal.returns-in_err-n
returns-in_err-n c =
    let x = c.args in
    rw c.from_residual.ensures (sym (field-none x.l.now x.c.at (sym c.read_number.ensures ∙ c.in_err-n.was)))

pub returns-then-l-at : goal.returns-then-l-at
returns-then-l-at c =
    let x = c.args in
    sym (field_end x.l.now x.c.at _ _ (sym c.read_number.ensures ∙ c.in_ok-n.was) c.if-l-at.true)

pub returns : goal.returns
returns c =
    let x = c.args in
    sym (field-space x.l.now x.c.at _ _ (sym c.read_number.ensures ∙ c.in_ok-n.was) c.if-l-at.false)
