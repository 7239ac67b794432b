-- `first_waiting`: what the search finds from here on is what it finds from the start.
-- Assumes nothing.
use Rattle.schedule.proofs.Flags.{first-here, first_on, first-none}
use mathlib.Core.Path.{sym, ◌∙◌}
use Rattle.schedule.proofs.first_waiting.Goals as goal

pub returns-then-waiting-i : goal.returns-then-waiting-i
returns-then-waiting-i c =
    let s = c.args in
    let l = c.loop-i in
    first-here s.waiting l.i s.to c.loop-i-test.true c.if-waiting-i.true ∙ l.invariant

pub loop-i-preserved : goal.loop-i-preserved
loop-i-preserved c =
    let s = c.args in
    let l = c.loop-i in
    first_on s.waiting l.i s.to c.loop-i-test.true c.if-waiting-i.false ∙ l.invariant

pub returns : goal.returns
returns c =
    let s = c.args in
    let l = c.loop-i in
    sym (first-none s.waiting l.i s.to c.loop-i-test.false) ∙ l.invariant
