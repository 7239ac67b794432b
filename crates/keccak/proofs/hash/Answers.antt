-- `keccak::hash` meets its contract: the steps make the sponge construction.
-- Assumes nothing.
use Rattle.keccak.specs.declared.sponge.Sponge.{Sponge}
use Rattle.keccak.proofs.Squeezing.{steps-sponge}
use Rattle.keccak.proofs.Steps.{absorbs-room}
use Rattle.keccak.specs.Steps.{empty, absorbs, padded, squeezes}
use native.Mathlib.Omega.{arith}
use mathlib.Core.Path.{ap, ◌∙◌}
use lib.ListN.{length}
use Rattle.keccak.proofs.hash.Goals as goal

pub absorb-requires : goal.absorb-requires
unfolding empty
absorb-requires c = rw c.new.ensures (omega arith)

pub pad-s-requires : goal.pad-s-requires
unfolding empty
pad-s-requires c =
    let b = c in
    (b.requires.0, (b.requires.1.0, rw c.absorb.ensures (absorbs-room b.args.rate b.requires.0 _ _ (rw c.new.ensures (omega arith)))))

pub squeeze-requires : goal.squeeze-requires
unfolding padded
squeeze-requires c = rw c.pad-s.ensures (omega arith)

pub returns : goal.returns
returns c =
    let b = c in
    let x = b.args in
    c.squeeze.ensures.bytes
    ∙ ap (squeezes x.rate (length x.out.now))
    (c.pad-s.ensures
    ∙ ap (padded x.rate x.first)
    (c.absorb.ensures ∙ ap (λ (s : Sponge). absorbs x.rate s x.«data».now) c.new.ensures))
    ∙ steps-sponge x.rate x.first x.«data».now (length x.out.now) b.requires.0 b.requires.1.0 b.requires.1.1.1
    (λ i. (c.shared_slice_known-1.given i).fits)
