-- `instance::checking::sent_bytes` meets its contract.
-- Assumes nothing.
use native.Mathlib.Omega.{arith}
use Rattle.instance.proofs.Checks.{sent-none, sent-all}
use Rattle.instance.proofs.checking.sent_bytes.Goals as goal

pub overflow_add-p : goal.overflow_add-p
overflow_add-p c = omega (arith, c.requires.1, c.ranges.n.fits)

pub returns-then-p-n : goal.returns-then-p-n
returns-then-p-n c = sent-none _ _ _ c.if-p-n.true

pub returns-else-p-n : goal.returns-else-p-n
returns-else-p-n c = sent-all _ _ _ _ c.if-p-n.false c.oct.ensures
