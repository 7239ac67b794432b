-- `one_of::records::entry_record` meets its contract: by whether the entry was listed before, and by the place of the gate.
-- Assumes nothing.
use mathlib.Core.Path.{◌∙◌}
use native.Mathlib.Omega.{arith}
use Rattle.circuit.specs.File.{fields_of}
use Rattle.one_of.specs.OneOf.{entries}
use Rattle.one_of.proofs.Coded.{entry-few, top, sum_same, zero_same, entry-copy, entry-and, entry-join}
use Rattle.one_of.proofs.records.entry_record.Goals as goal

pub overflow_add-zero : goal.overflow_add-zero
overflow_add-zero c =
    let x = c in
    omega (arith, x.requires.0.laid)

pub overflow_add-zero-2 : goal.overflow_add-zero-2
overflow_add-zero-2 c =
    let x = c in
    omega (arith, x.requires.0.laid)

pub overflow_cast-zero : goal.overflow_cast-zero
overflow_cast-zero c =
    let x = c in
    omega (arith, x.requires.0.laid)

pub sum_wire-sum-requires : goal.sum_wire-sum-requires
sum_wire-sum-requires c =
    let x = c in
    let z = x.args.z in
    (x.requires.0.laid.few_inputs, omega (arith, x.requires.0.few, entry-few z.outputs (entries z.outputs x.args.list.now) x.args.e x.requires.1.0))

pub overflow_cast-sum : goal.overflow_cast-sum
overflow_cast-sum c =
    let x = c in
    omega (arith, c.sum_wire-sum.ensures, top x.args.s.now x.args.list.now x.args.z x.args.e x.args.j x.requires.0 x.requires.1.0 x.requires.1.1)

pub prefix-first-requires : goal.prefix-first-requires
prefix-first-requires c = c.requires

pub returns-then-again : goal.returns-then-again
returns-then-again c =
    let x = c in
    entry-copy (fields_of x.args.s.now) x.args.list.now x.args.z.outputs x.requires.0.laid.outputs x.args.e x.args.j x.args.next _ _ _ c.repeated-again.ensures c.if-again.true
    (c.sum_wire-sum.ensures ∙ sum_same x.args.s.now x.args.list.now x.args.z x.args.e x.requires.0) (zero_same x.args.s.now x.args.list.now x.args.z x.requires.0)

pub overflow_add-j : goal.overflow_add-j
overflow_add-j c =
    let x = c in
    omega (arith, x.requires.0.laid, x.requires.1.1)

pub overflow_add-j-then-j-z : goal.overflow_add-j-then-j-z
overflow_add-j-then-j-z c =
    let x = c in
    omega (arith, x.requires.0.laid, x.requires.1.1)

pub literal-wire-requires : goal.literal-wire-requires
literal-wire-requires c =
    let x = c in
    (x.requires.0, (x.requires.1.0, c.if-j-z.true))

pub returns-then-j-z : goal.returns-then-j-z
returns-then-j-z c =
    let x = c in
    entry-and (fields_of x.args.s.now) x.args.list.now x.args.z.outputs x.requires.0.laid.outputs x.args.e x.args.j x.args.next _ _ _ c.repeated-again.ensures c.if-again.false c.if-j-z.true
    c.prefix-first.ensures c.literal-wire.ensures

pub returns : goal.returns
returns c =
    let x = c in
    entry-join (fields_of x.args.s.now) x.args.list.now x.args.z.outputs x.requires.0.laid.outputs x.args.e x.args.j x.args.next _ _ _ c.repeated-again.ensures c.if-again.false c.if-j-z.false
    (c.sum_wire-sum.ensures ∙ sum_same x.args.s.now x.args.list.now x.args.z x.args.e x.requires.0) c.prefix-first.ensures
