-- `bristol_lines::heading::counts` meets its contract: by cases of what is read.
-- Assumes nothing.
use mathlib.Core.Path.{sym, ◌∙◌}
use Rattle.bristol_lines.proofs.Heads.{counts-none, counts-one, counts-more, counts_all}
use Rattle.bristol_lines.proofs.heading.counts.Goals as goal

pub returns-in_err-gates : goal.returns-in_err-gates
returns-in_err-gates c =
    rw c.from_residual.ensures (sym (counts-none c.args.l.now (sym c.read_field.ensures ∙ c.in_err-gates.was)))

pub returns-in_err-wires : goal.returns-in_err-wires
returns-in_err-wires c =
    let e = sym c.read_field.ensures ∙ c.in_ok-gates.was in
    rw c.from_residual-in_err-wires.ensures (sym (counts-one c.args.l.now _ _ e (sym c.read_number.ensures ∙ c.in_err-wires.was)))

pub returns-then-end-l : goal.returns-then-end-l
returns-then-end-l c =
    let e = sym c.read_field.ensures ∙ c.in_ok-gates.was in
    sym (counts-more c.args.l.now _ _ e _ _ (sym c.read_number.ensures ∙ c.in_ok-wires.was) c.if-end-l.true)

pub returns : goal.returns
returns c =
    let e = sym c.read_field.ensures ∙ c.in_ok-gates.was in
    sym (counts_all c.args.l.now _ _ e _ _ (sym c.read_number.ensures ∙ c.in_ok-wires.was) c.if-end-l.false)
