-- `keccak::sponge::Sponge::absorb_byte` meets its contract.
-- Assumes nothing.
use Rattle.keccak.specs.Steps.{absorb_byte}
use Rattle.keccak.proofs.sponge.Sponge.absorb_byte.Goals as goal

pub returns : goal.returns
unfolding absorb_byte
returns c = rw (← c.xor_byte.ensures) c.turn.ensures
