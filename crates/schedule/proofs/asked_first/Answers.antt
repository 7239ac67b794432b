-- `asked_first`: a number above 16 counts as 0.
-- Assumes nothing.
use Rattle.schedule.proofs.Flags.{begin-within, begin-beyond}
use native.Mathlib.Omega.{arith}
use Rattle.schedule.proofs.asked_first.Goals as goal

pub returns-then-begin-lt17 : goal.returns-then-begin-lt17
returns-then-begin-lt17 c = begin-within c.args.begin (omega arith)

pub returns : goal.returns
returns c = begin-beyond c.args.begin (omega (arith, c.if-begin-lt17.false))
