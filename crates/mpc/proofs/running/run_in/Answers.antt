-- `mpc::running::run_in` meets its contract.
-- Assumes nothing.
use mathlib.Core.Path.{◌∙◌}
use Rattle.mpc.proofs.Places.{memory-held, placed, working-kept}
use Rattle.mpc.proofs.Ran.{run-made}
use Rattle.mpc.proofs.running.run_in.Goals as goal

pub hold-requires : goal.hold-requires
hold-requires c =
    let p = c.requires in
    (placed c.args.s.now _ _ p.0 _ p.1.0, (p.1.1.1.tapes_fit, p.1.1.1.corrections_fit))

pub run_held-requires : goal.run_held-requires
run_held-requires c =
    let p = c.requires in
    let w = working-kept _ _ c.args.memory.now _ c.hold.auto.memory p.1.0 in
    (memory-held c.args.s.now _ _ p.0 _ w, (p.1.1.0, (p.1.1.1.masked_fit, p.1.1.1.y_fits)))

pub give_rows-requires : goal.give_rows-requires
give_rows-requires c =
    let p = c.requires in
    let w = working-kept _ _ c.args.memory.now _ (c.run_held.auto.memory ∙ c.hold.auto.memory) p.1.0 in
    let h = memory-held c.args.s.now _ _ p.0 _ w in
    (h.room, (h.few, p.1.1.1.rows_fit))

pub returns : goal.returns
returns c =
    let p = c.requires in
    let x = c.args in
    run-made x.s.now x.z x.n x.tapes.now x.corrections.now x.witness.now x.memory.now p.0 p.1.0 p.1.1.1.tapes_fit p.1.1.1.corrections_fit _ _ _ _ _
    c.hold.ensures c.run_held.ensures.masked_after c.run_held.ensures.y_after c.run_held.ensures.memory_after c.give_rows.ensures
