-- `growing::four_shown` meets its contract: a case for each test.
-- Assumes nothing.
use borrow.Author.Tests.{eq-eqb, ne_eqb}
use Rattle.growing.proofs.Following.{four-marks}
use Rattle.growing.proofs.four_shown.Goals as goal

pub returns-then-marks-k-ne1 : goal.returns-then-marks-k-ne1
returns-then-marks-k-ne1 c = rw (ne_eqb _ 1 c.if-marks-k-ne1.true) at (four-marks c.args.marks.now c.args.k)

pub returns-then-marks-k-ne1-2 : goal.returns-then-marks-k-ne1-2
returns-then-marks-k-ne1-2 c = rw (eq-eqb _ 1 c.if-marks-k-ne1.false, ne_eqb _ 1 c.if-marks-k-ne1-2.true) at (four-marks c.args.marks.now c.args.k)

pub returns-then-marks-k-ne1-3 : goal.returns-then-marks-k-ne1-3
returns-then-marks-k-ne1-3 c = rw (eq-eqb _ 1 c.if-marks-k-ne1.false, eq-eqb _ 1 c.if-marks-k-ne1-2.false, ne_eqb _ 1 c.if-marks-k-ne1-3.true) at (four-marks c.args.marks.now c.args.k)

pub returns : goal.returns
returns c = rw (eq-eqb _ 1 c.if-marks-k-ne1.false, eq-eqb _ 1 c.if-marks-k-ne1-2.false, eq-eqb _ 1 c.if-marks-k-ne1-3.false) at (four-marks c.args.marks.now c.args.k)
