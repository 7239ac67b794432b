-- `calling::test_once` meets its contract.
-- Assumes nothing.
use Rattle.calling.proofs.test_once.Goals as goal

pub returns-in-Some : goal.returns-in-Some
returns-in-Some c = c.requires _ c.in-Some.is

pub returns-in-None : goal.returns-in-None
returns-in-None c = c.test_bytes.ensures
