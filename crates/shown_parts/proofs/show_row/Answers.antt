-- `shown_parts::show_row` meets its contract.
-- Assumes nothing.
use native.Mathlib.Omega.{arith}
use Rattle.mpc.proofs.Places.{few_wires}
use Rattle.shown_parts.proofs.Shows.{row-asks, row-packed}
use Rattle.shown_parts.proofs.show_row.Goals as goal

pub layout-l-requires : goal.layout-l-requires
layout-l-requires c = few_wires c.args.s.now c.args.z 0 c.requires.0

pub head-head-requires : goal.head-head-requires
head-head-requires c = omega (arith, c.requires.0.legal.laid.whole)

pub shown_bits-shown-requires : goal.shown_bits-shown-requires
shown_bits-shown-requires c = (c.requires.0, (c.head-head.ensures, c.requires.1.1.1.0))

pub pack_row-requires : goal.pack_row-requires
pack_row-requires c =
    let p = c.requires in
    row-asks c.args.s.now c.args.z c.args.cut _ c.args.p _ c.args.memory.now c.args.row.now p.0 c.shown_bits-shown.ensures c.layout-l.ensures p.1.0 p.1.1.0 p.1.1.1.1

pub returns : goal.returns
returns c =
    let x = c.args in
    row-packed x.s.now x.z x.cut _ x.p _ x.memory.now x.row.now _ c.shown_bits-shown.ensures c.layout-l.ensures c.requires.1.1.1.1 c.pack_row.ensures
