-- `words::place` meets its contract: the bit of a place, or none.
-- Assumes nothing.
use native.Mathlib.Omega.{arith}
use Rattle.words.proofs.Columns.{place-outside, place-shift}
use Rattle.words.proofs.place.Goals as goal

pub returns-then-p-lt64 : goal.returns-then-p-lt64
returns-then-p-lt64 c = place-shift c.args.p (omega arith)

pub returns-else-p-lt64 : goal.returns-else-p-lt64
returns-else-p-lt64 c = place-outside 64 c.args.p (omega arith)
