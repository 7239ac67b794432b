-- `mpc::holding::hold` meets its contract.
-- Assumes nothing.
use Rattle.mpc.proofs.Places.{layout-asks, both-start, both_end, both-size, both-put}
use Rattle.mpc.proofs.holding.hold.Goals as goal

pub layout-l-requires : goal.layout-l-requires
layout-l-requires c = c.requires.0.room.few_wires

pub corrections_at-at-requires : goal.corrections_at-at-requires
corrections_at-at-requires c = layout-asks c.args.z _ c.layout-l.ensures _ c.requires.0.room

pub rows_at-rows-requires : goal.rows_at-rows-requires
rows_at-rows-requires c = layout-asks c.args.z _ c.layout-l.ensures _ c.requires.0.room

pub hold_tapes-requires : goal.hold_tapes-requires
hold_tapes-requires c = (c.requires.0, c.requires.1.0)

pub slice_bounds-copy-start : goal.slice_bounds-copy-start
slice_bounds-copy-start c = both-start c.args.z c.args.n c.args.tapes.now c.args.memory.now c.requires.0 c.requires.1.0 c.args.corrections.now c.requires.1.1 _ c.layout-l.ensures _ _ c.corrections_at-at.ensures c.rows_at-rows.ensures _ c.hold_tapes.ensures

pub slice_bounds-copy-end : goal.slice_bounds-copy-end
slice_bounds-copy-end c = both_end c.args.z c.args.n c.args.tapes.now c.args.memory.now c.requires.0 c.requires.1.0 c.args.corrections.now c.requires.1.1 _ c.layout-l.ensures _ _ c.corrections_at-at.ensures c.rows_at-rows.ensures _ c.hold_tapes.ensures

pub copy-requires : goal.copy-requires
copy-requires c = both-size c.args.z c.args.n c.args.tapes.now c.args.memory.now c.requires.0 c.requires.1.0 c.args.corrections.now c.requires.1.1 _ c.layout-l.ensures _ _ c.corrections_at-at.ensures c.rows_at-rows.ensures _ c.hold_tapes.ensures

pub returns : goal.returns
returns c = both-put c.args.z c.args.n c.args.tapes.now c.args.memory.now c.requires.0 c.requires.1.0 c.args.corrections.now c.requires.1.1 _ c.layout-l.ensures _ _ c.corrections_at-at.ensures c.rows_at-rows.ensures _ c.hold_tapes.ensures _ c.copy.ensures
