-- `mpc::holding::give_corrections` meets its contract.
-- Assumes nothing.
use mathlib.Core.Path.{sym, ap, ◌∙◌}
use native.Mathlib.Omega.{arith}
use lib.ListN.{length}
use Rattle.mpc.proofs.Places.{layout-asks, corrections-are, rows_are, held-part, held-size}
use Rattle.mpc.proofs.holding.give_corrections.Goals as goal

pub layout-l-requires : goal.layout-l-requires
layout-l-requires c = c.requires.0.room.few_wires

pub corrections_at-at-requires : goal.corrections_at-at-requires
corrections_at-at-requires c = layout-asks c.args.z _ c.layout-l.ensures _ c.requires.0.room

pub rows_at-rows-requires : goal.rows_at-rows-requires
rows_at-rows-requires c = layout-asks c.args.z _ c.layout-l.ensures _ c.requires.0.room

pub slice_bounds-copy-end : goal.slice_bounds-copy-end
slice_bounds-copy-end c =
    let e = rows_are c.args.z _ c.layout-l.ensures _ c.rows_at-rows.ensures in
    omega (arith, e, c.requires.0.rows)

pub copy-requires : goal.copy-requires
copy-requires c =
    let a = corrections-are c.args.z _ c.layout-l.ensures _ c.corrections_at-at.ensures in
    let e = rows_are c.args.z _ c.layout-l.ensures _ c.rows_at-rows.ensures in
    c.requires.1 ∙ sym (ap length (held-part c.args.z c.args.memory.now _ _ a e) ∙ held-size c.args.z c.args.n c.args.memory.now c.requires.0)

pub returns : goal.returns
returns c =
    let a = corrections-are c.args.z _ c.layout-l.ensures _ c.corrections_at-at.ensures in
    let e = rows_are c.args.z _ c.layout-l.ensures _ c.rows_at-rows.ensures in
    c.copy.ensures ∙ held-part c.args.z c.args.memory.now _ _ a e
