-- `mpc::preparing::prepare_held` meets its contract.
-- Assumes nothing.
use Rattle.mpc.proofs.Places.{few_wires, memory-held, placed, layout-asks, corrections-are, rows_are, working-kept, lent, prepared-made}
use Rattle.mpc.proofs.preparing.prepare_held.Goals as goal

pub layout-l-requires : goal.layout-l-requires
layout-l-requires c = few_wires c.args.s.now c.args.z c.args.n c.requires.0

pub corrections_at-at-requires : goal.corrections_at-at-requires
corrections_at-at-requires c =
    layout-asks c.args.z _ c.layout-l.ensures _ (memory-held c.args.s.now c.args.z c.args.n c.requires.0 _ c.requires.1.0).room

pub rows_at-rows-requires : goal.rows_at-rows-requires
rows_at-rows-requires c =
    layout-asks c.args.z _ c.layout-l.ensures _ (memory-held c.args.s.now c.args.z c.args.n c.requires.0 _ c.requires.1.0).room

pub hold_tapes-requires : goal.hold_tapes-requires
hold_tapes-requires c = (placed c.args.s.now c.args.z c.args.n c.requires.0 _ c.requires.1.0, c.requires.1.1)

pub make_corrections-requires : goal.make_corrections-requires
make_corrections-requires c =
    lent c.args.s.now c.args.z c.args.n c.requires.0 _ _ _ (working-kept _ _ c.args.memory.now _ c.hold_tapes.auto.memory c.requires.1.0)
    (rows_are c.args.z _ c.layout-l.ensures _ c.rows_at-rows.ensures) (corrections-are c.args.z _ c.layout-l.ensures _ c.corrections_at-at.ensures)

pub returns : goal.returns
returns c =
    prepared-made c.args.s.now c.args.z c.args.n c.args.tapes.now c.args.memory.now _ _ _ _ (rows_are c.args.z _ c.layout-l.ensures _ c.rows_at-rows.ensures) (corrections-are c.args.z _ c.layout-l.ensures _ c.corrections_at-at.ensures)
    c.hold_tapes.ensures c.make_corrections.ensures
