-- `party::close_row` meets its contract: the head is j and i, after the tag and the salt.
-- Assumes nothing.
use Rattle.bits.specs.Bytes.{le_bytes}
use Rattle.party.proofs.close_row.Goals as goal

pub returns : goal.returns
unfolding le_bytes
returns c = c.close128.ensures
