-- `one_of::records::slot_record` meets its contract: an old slot, or one that is added.
-- Assumes nothing.
use native.Mathlib.Omega.{arith}
use Rattle.circuit.specs.File.{fields_of}
use Rattle.one_of.proofs.Coded.{slot-first, slot_added, all_same}
use Rattle.one_of.proofs.records.slot_record.Goals as goal

pub old_record-requires : goal.old_record-requires
old_record-requires c =
    let x = c in
    (x.requires.0.laid, (x.requires.1.1.0, c.if-k-z.true))

pub returns-then-k-z : goal.returns-then-k-z
returns-then-k-z c =
    let x = c in
    slot-first (fields_of x.args.s.now) x.args.list.now x.args.k x.args.z.gates _ x.requires.0.laid.gates c.if-k-z.true c.old_record.ensures

pub onward-next-requires : goal.onward-next-requires
onward-next-requires c =
    let x = c in
    omega (arith, x.requires.0.few, x.requires.1.0)

pub overflow_sub-k : goal.overflow_sub-k
overflow_sub-k c = omega (arith, c.if-k-z.false)

pub overflow_sub-k-2 : goal.overflow_sub-k-2
overflow_sub-k-2 c = omega (arith, c.if-k-z.false)

pub new_record-requires : goal.new_record-requires
new_record-requires c =
    let x = c in
    (x.requires.0, omega (arith, x.requires.1, c.if-k-z.false))

pub returns : goal.returns
returns c =
    let x = c in
    slot_added (fields_of x.args.s.now) x.args.list.now x.args.k x.args.z.gates x.args.total _ _ x.requires.0.laid.gates (omega (arith, c.if-k-z.false))
    (all_same x.args.s.now x.args.list.now x.args.z x.args.total x.requires.0 x.requires.1.0) c.onward-next.ensures c.new_record.ensures
