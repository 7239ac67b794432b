-- `keccak::shake256` meets its contract.
-- Assumes nothing.
use Rattle.keccak.specs.Sponge.{shake256}
use Rattle.keccak.proofs.shake256.Goals as goal

pub returns : goal.returns
unfolding shake256
returns c = c.hash.ensures
