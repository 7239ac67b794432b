-- `keccak::shake128` meets its contract.
-- Assumes nothing.
use Rattle.keccak.specs.Sponge.{shake128}
use Rattle.keccak.proofs.shake128.Goals as goal

pub returns : goal.returns
unfolding shake128
returns c = c.hash.ensures
