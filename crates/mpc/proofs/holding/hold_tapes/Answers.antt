-- `mpc::holding::hold_tapes` meets its contract.
-- Assumes nothing.
use Rattle.mpc.proofs.Places.{layout-asks, tapes-start, tapes-end, tapes-size, tapes-put}
use Rattle.mpc.proofs.holding.hold_tapes.Goals as goal

pub layout-l-requires : goal.layout-l-requires
layout-l-requires c = c.requires.0.room.few_wires

pub rows_at-rows-requires : goal.rows_at-rows-requires
rows_at-rows-requires c = layout-asks c.args.z _ c.layout-l.ensures _ c.requires.0.room

pub leaves_at-end-requires : goal.leaves_at-end-requires
leaves_at-end-requires c =
    let p = c.requires in
    let r = layout-asks c.args.z _ c.layout-l.ensures _ p.0.room in
    (r.0, (r.1, p.0.few))

pub slice_bounds-copy-start : goal.slice_bounds-copy-start
slice_bounds-copy-start c = tapes-start c.args.z c.args.n c.args.tapes.now c.args.memory.now c.requires.0 c.requires.1 _ c.layout-l.ensures _ _ c.rows_at-rows.ensures c.leaves_at-end.ensures

pub slice_bounds-copy-end : goal.slice_bounds-copy-end
slice_bounds-copy-end c = tapes-end c.args.z c.args.n c.args.tapes.now c.args.memory.now c.requires.0 c.requires.1 _ c.layout-l.ensures _ _ c.rows_at-rows.ensures c.leaves_at-end.ensures

pub copy-requires : goal.copy-requires
copy-requires c = tapes-size c.args.z c.args.n c.args.tapes.now c.args.memory.now c.requires.0 c.requires.1 _ c.layout-l.ensures _ _ c.rows_at-rows.ensures c.leaves_at-end.ensures

pub returns : goal.returns
returns c = tapes-put c.args.z c.args.n c.args.tapes.now c.args.memory.now c.requires.0 c.requires.1 _ c.layout-l.ensures _ _ c.rows_at-rows.ensures c.leaves_at-end.ensures _ c.copy.ensures
