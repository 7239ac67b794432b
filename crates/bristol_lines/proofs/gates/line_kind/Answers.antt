-- `bristol_lines::gates::line_kind` meets its contract: the three tests in turn.
-- Assumes nothing.
use mathlib.Core.Path.{◌∙◌}
use Rattle.bristol_lines.specs.Rules.{kind_on}
use Rattle.bristol_lines.proofs.Names.{is-xor, is-and, is-inv, is-other, tested}
use Rattle.bristol_lines.proofs.gates.line_kind.Goals as goal

pub returns-then-eq : goal.returns-then-eq
unfolding kind_on
returns-then-eq c =
    let l = c.args.l.now in
    is-xor _ (tested l _ c.last_token.ensures _ _ c.as_slice.ensures _ c.eq.ensures ∙ c.if-eq.true)

pub returns-then-eq-2 : goal.returns-then-eq-2
unfolding kind_on
returns-then-eq-2 c =
    let l = c.args.l.now in
    is-and _ (tested l _ c.last_token.ensures _ _ c.as_slice.ensures _ c.eq.ensures ∙ c.if-eq.false)
    (tested l _ c.last_token.ensures _ _ c.as_slice-2.ensures _ c.eq-2.ensures ∙ c.if-eq-2.true)

pub returns-then-eq-3 : goal.returns-then-eq-3
unfolding kind_on
returns-then-eq-3 c =
    let l = c.args.l.now in
    is-inv _ (tested l _ c.last_token.ensures _ _ c.as_slice.ensures _ c.eq.ensures ∙ c.if-eq.false)
    (tested l _ c.last_token.ensures _ _ c.as_slice-2.ensures _ c.eq-2.ensures ∙ c.if-eq-2.false)
    (tested l _ c.last_token.ensures _ _ c.as_slice-3.ensures _ c.eq-3.ensures ∙ c.if-eq-3.true)

pub returns : goal.returns
unfolding kind_on
returns c =
    let l = c.args.l.now in
    is-other _ (tested l _ c.last_token.ensures _ _ c.as_slice.ensures _ c.eq.ensures ∙ c.if-eq.false)
    (tested l _ c.last_token.ensures _ _ c.as_slice-2.ensures _ c.eq-2.ensures ∙ c.if-eq-2.false)
    (tested l _ c.last_token.ensures _ _ c.as_slice-3.ensures _ c.eq-3.ensures ∙ c.if-eq-3.false)
