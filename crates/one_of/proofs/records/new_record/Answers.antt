-- `one_of::records::new_record` meets its contract: by the place of the gate.
-- Assumes nothing.
use native.Mathlib.Omega.{arith}
use Rattle.circuit.proofs.Slots.{width-known}
use Rattle.circuit.specs.File.{fields_of}
use Rattle.one_of.specs.OneOf.{entries}
use Rattle.one_of.proofs.Coded.{gate-inv, gate-zero, gate-entry, entry_place}
use Rattle.one_of.proofs.records.new_record.Goals as goal

pub overflow_add-i : goal.overflow_add-i
overflow_add-i c =
    let x = c in
    omega (arith, x.requires.0.laid, c.if-i-z.true)

pub field-wire-requires : goal.field-wire-requires
field-wire-requires c =
    let x = c in
    (width-known, omega (arith, x.requires.0.laid, c.if-i-z.true))

pub returns-then-i-z : goal.returns-then-i-z
returns-then-i-z c =
    let x = c in
    gate-inv (fields_of x.args.s.now) x.args.list.now x.args.z.outputs x.requires.0.laid.outputs x.args.i x.args.next _ c.if-i-z.true c.field-wire.ensures

pub returns-then-i-z-2 : goal.returns-then-i-z-2
returns-then-i-z-2 c =
    let x = c in
    gate-zero (fields_of x.args.s.now) x.args.list.now x.args.z.outputs x.requires.0.laid.outputs x.args.i x.args.next c.if-i-z-2.true

pub overflow_sub-t-2 : goal.overflow_sub-t-2
overflow_sub-t-2 c = omega (arith, c.if-i-z.false, c.if-i-z-2.false)

pub nonzero_div-t : goal.nonzero_div-t
nonzero_div-t c =
    let x = c in
    omega (arith, x.requires.0.some_outputs)

pub nonzero_rem-t : goal.nonzero_rem-t
nonzero_rem-t c =
    let x = c in
    omega (arith, x.requires.0.some_outputs)

pub entry_record-requires : goal.entry_record-requires
entry_record-requires c =
    let x = c in
    (x.requires.0, entry_place x.args.z.outputs (entries x.args.z.outputs x.args.list.now) x.args.i x.requires.0.some_outputs (omega (arith, c.if-i-z.false, c.if-i-z-2.false)) x.requires.1)

pub returns : goal.returns
returns c =
    let x = c in
    gate-entry (fields_of x.args.s.now) x.args.list.now x.args.z.outputs x.requires.0.laid.outputs x.args.i x.args.next _ (omega (arith, c.if-i-z.false, c.if-i-z-2.false)) x.requires.1 c.entry_record.ensures
