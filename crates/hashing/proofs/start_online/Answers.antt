-- `hashing::start_online` meets its contract: the tag and j are taken in.
-- Assumes nothing.
use Rattle.bits.specs.Bytes.{le_bytes}
use Rattle.hashing.specs.Inputs.{online_input}
use Rattle.hashing.proofs.start_online.Goals as goal

pub returns : goal.returns
unfolding online_input le_bytes
returns c = c.start.ensures
