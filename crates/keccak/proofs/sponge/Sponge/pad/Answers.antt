-- `keccak::sponge::Sponge::pad` meets its contract.
-- Assumes nothing.
use mathlib.Core.Path.{refl, ap, ◌∙◌}
use Rattle.keccak.specs.Steps.{turned, closed, padded}
use Rattle.keccak.proofs.Steps.{turned-full}
use Rattle.keccak.proofs.sponge.Sponge.pad.Goals as goal

pub returns : goal.returns
unfolding closed padded
returns c =
    let x = c.args in
    c.turn.ensures ∙ ap (turned x.rate) c.close.ensures ∙ turned-full x.rate (closed x.rate x.first x.self) refl
