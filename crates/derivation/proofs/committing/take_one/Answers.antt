-- `derivation::committing::take_one` meets its contract.
-- Assumes nothing.
use mathlib.Core.Path.{ap, ◌∙◌}
use Rattle.keccak.specs.Steps.{absorbs}
use Rattle.derivation.proofs.Committed.{com-theirs, com-own}
use Rattle.derivation.proofs.committing.take_one.Goals as goal

pub returns-then-i-p : goal.returns-then-i-p
returns-then-i-p c =
    let x = c.args in
    c.absorb.ensures ∙ ap (absorbs 136 x.s) (com-theirs x.j x.n x.p x.theirs.now x.seeds.now x.corrections.now x.i c.if-i-p.true)

pub returns : goal.returns
returns c =
    let x = c.args in
    c.absorb-2.ensures
    ∙ ap (absorbs 136 x.s) (com-own x.j x.n x.p x.theirs.now x.seeds.now x.corrections.now x.i c.commitment-c.result c.if-i-p.false c.commitment-c.ensures)
