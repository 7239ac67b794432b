-- `keccak::sha3_256` meets its contract.
-- Assumes nothing.
use Rattle.keccak.specs.Sponge.{sha3_256}
use Rattle.keccak.proofs.sha3_256.Goals as goal

pub returns : goal.returns
unfolding sha3_256
returns c = c.hash.ensures
