-- `growing::is_opened` meets its contract: a case for each test.
-- Assumes nothing.
use borrow.Author.Tests.{eq-eqb, ne_eqb}
use Rattle.cover.specs.Steps.{opened_by}
use Rattle.growing.proofs.is_opened.Goals as goal

pub returns-then-marks-k-eq1 : goal.returns-then-marks-k-eq1
unfolding opened_by
returns-then-marks-k-eq1 c = rw (eq-eqb _ 1 c.if-marks-k-eq1.true)

pub returns-else-marks-k-eq1 : goal.returns-else-marks-k-eq1
unfolding opened_by
returns-else-marks-k-eq1 c = rw (ne_eqb _ 1 c.if-marks-k-eq1.false)
