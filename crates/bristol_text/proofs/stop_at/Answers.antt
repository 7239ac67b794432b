-- `bristol_text::stop_at` meets its contract. The loop's invariant speaks of what remains: from i the run stops where it does from the start.
-- Assumes nothing.
use mathlib.Core.Path.{sym, ◌∙◌}
use Rattle.bristol_text.proofs.Runs.{stop-past, stop-here, stop-next}
use Rattle.bristol_text.proofs.stop_at.Goals as goal

pub returns-then-not-passes : goal.returns-then-not-passes
returns-then-not-passes g c = λ p t.
    let x = c.args in
    let l = c.loop-i in
    sym (stop-here p x.s.now l.i c.loop-i-test.true (sym (t _ _ c.passes.ensures) ∙ c.if-not-passes.true)) ∙ l.invariant p t

pub loop-i-preserved : goal.loop-i-preserved
loop-i-preserved g c = λ p t.
    let x = c.args in
    let l = c.loop-i in
    stop-next p x.s.now l.i c.loop-i-test.true (sym (t _ _ c.passes.ensures) ∙ c.if-not-passes.false) ∙ l.invariant p t

pub returns : goal.returns
returns g c = λ p t.
    let x = c.args in
    let l = c.loop-i in
    c.max.ensures ∙ stop-past p x.s.now x.at l.i (l.invariant p t) l.auto.i l.auto.i-end c.loop-i-test.false
