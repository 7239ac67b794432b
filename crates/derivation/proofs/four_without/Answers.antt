-- `derivation::four_without` meets its contract.
-- Assumes nothing.
use borrow.Author.Tests.{le-leb, lt-leb, lt-ltb, le-ltb}
use Rattle.derivation.proofs.four_without.Goals as goal

pub returns-then-p-i : goal.returns-then-p-i
returns-then-p-i c = rw (le-leb _ _ c.if-i-n.true, lt-ltb _ _ c.if-p-i.true)

pub returns-else-p-i : goal.returns-else-p-i
returns-else-p-i c = rw (le-leb _ _ c.if-i-n.true, le-ltb _ _ c.if-p-i.false)

pub returns-else-i-n : goal.returns-else-i-n
returns-else-i-n c = rw (lt-leb _ _ c.if-i-n.false)
