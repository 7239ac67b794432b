-- `keccak::sponge::Sponge::close` meets its contract.
-- Assumes nothing.
use Rattle.keccak.specs.Steps.{closed}
use Rattle.keccak.proofs.sponge.Sponge.close.Goals as goal

pub returns : goal.returns
unfolding closed
returns c = rw (← c.xor_byte.ensures, ← c.xor_byte-2.ensures)
