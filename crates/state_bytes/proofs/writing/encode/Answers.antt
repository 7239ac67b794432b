-- `state_bytes::writing::encode` meets its contract.
-- Assumes nothing.
use Rattle.state_bytes.proofs.writing.encode.Goals as goal

pub returns : goal.returns
returns c = c.write_state.ensures
