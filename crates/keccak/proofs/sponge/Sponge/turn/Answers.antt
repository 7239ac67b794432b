-- `keccak::sponge::Sponge::turn` meets its contract: a full block is permuted, any other stays.
-- Assumes nothing.
use borrow.Author.Tests.{eq-eqb, ne_eqb}
use Rattle.keccak.specs.Steps.{turned}
use Rattle.keccak.proofs.sponge.Sponge.turn.Goals as goal

pub returns-then-self-rate : goal.returns-then-self-rate
unfolding turned
returns-then-self-rate c = rw (eq-eqb _ _ c.if-self-rate.true, ← c.permute.ensures)

pub returns-else-self-rate : goal.returns-else-self-rate
unfolding turned
returns-else-self-rate c = rw (ne_eqb _ _ c.if-self-rate.false)
