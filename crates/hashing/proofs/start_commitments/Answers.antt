-- `hashing::start_commitments` meets its contract: the tag and j are taken in.
-- Assumes nothing.
use Rattle.bits.specs.Bytes.{le_bytes}
use Rattle.hashing.specs.Inputs.{commitments_input}
use Rattle.hashing.proofs.start_commitments.Goals as goal

pub returns : goal.returns
unfolding commitments_input le_bytes
returns c = c.start.ensures
