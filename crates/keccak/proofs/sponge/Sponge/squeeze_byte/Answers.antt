-- `keccak::sponge::Sponge::squeeze_byte` meets its contract: after the turn there is room for a byte.
-- Assumes nothing.
use mathlib.Core.Path.{ap, ◌∙◌}
use Rattle.keccak.specs.Steps.{given_byte, squeeze_byte}
use Rattle.keccak.proofs.Steps.{turned-room}
use native.Mathlib.Omega.{arith}
use Rattle.keccak.proofs.sponge.Sponge.squeeze_byte.Goals as goal

pub give-requires : goal.give-requires
give-requires c =
    let b = c in
    rw c.turn.ensures (omega (arith, turned-room b.args.rate b.requires.0 b.args.self b.requires.1.1))

pub returns : goal.returns
unfolding squeeze_byte
returns c = c.give.ensures ∙ ap given_byte c.turn.ensures
