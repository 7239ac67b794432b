-- `mpc::preparing::prepare_in` meets its contract.
-- Assumes nothing.
use mathlib.Core.Path.{ap, ◌∙◌}
use Rattle.packed.specs.Steps.{corrections_held}
use Rattle.mpc.proofs.Places.{placed, working-kept, prepared-corrections}
use Rattle.mpc.proofs.preparing.prepare_in.Goals as goal

pub prepare_held-requires : goal.prepare_held-requires
prepare_held-requires c = (c.requires.0, (c.requires.1.0, c.requires.1.1.tapes_fit))

pub give_corrections-requires : goal.give_corrections-requires
give_corrections-requires c =
    let p = c.requires in
    let w = working-kept _ _ c.args.memory.now _ c.prepare_held.auto.memory p.1.0 in
    (placed c.args.s.now _ _ p.0 _ w, p.1.1.corrections_fit)

pub returns : goal.returns
returns c =
    let p = c.requires in
    let x = c.args in
    c.give_corrections.ensures ∙ ap (corrections_held x.z) c.prepare_held.ensures
    ∙ prepared-corrections x.s.now x.z x.n x.tapes.now x.memory.now p.0 p.1.0 p.1.1.tapes_fit p.1.1.unused
