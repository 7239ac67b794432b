-- `verifying::header_salt` meets its contract.
-- Assumes nothing.
use Rattle.verifying.proofs.header_salt.Goals as goal

pub returns : goal.returns
returns c = c.salt_in.ensures
