-- `one_of::records::prefix` meets its contract: by the bits before.
-- Assumes nothing.
use mathlib.Core.Path.{ap, ◌∙◌}
use Prim.Native.Nat.{ℕ, ◌+◌}
use native.Mathlib.Omega.{arith}
use Rattle.circuit.specs.File.{fields_of}
use Rattle.one_of.specs.OneOf.{entries}
use Rattle.one_of.proofs.Coded.{prefix-first, prefix-later, entry-few, top, sum_same}
use Rattle.one_of.proofs.records.prefix.Goals as goal

pub returns-then-j-eq0 : goal.returns-then-j-eq0
returns-then-j-eq0 c =
    let x = c.args in
    prefix-first (fields_of x.s.now) x.list.now x.e x.j _ c.if-j-eq0.true c.literal.ensures

pub sum_wire-requires : goal.sum_wire-requires
sum_wire-requires c =
    let x = c in
    let z = x.args.z in
    (x.requires.0.laid.few_inputs, omega (arith, x.requires.0.few, entry-few z.outputs (entries z.outputs x.args.list.now) x.args.e x.requires.1.0))

pub overflow_add-result : goal.overflow_add-result
overflow_add-result c =
    let x = c in
    omega (arith, c.sum_wire.ensures, top x.args.s.now x.args.list.now x.args.z x.args.e x.args.j x.requires.0 x.requires.1.0 x.requires.1.1)

pub overflow_cast-result : goal.overflow_cast-result
overflow_cast-result c =
    let x = c in
    omega (arith, c.sum_wire.ensures, top x.args.s.now x.args.list.now x.args.z x.args.e x.args.j x.requires.0 x.requires.1.0 x.requires.1.1)

pub returns : goal.returns
returns c =
    let x = c in
    prefix-later (fields_of x.args.s.now) x.args.list.now x.args.e x.args.j _ c.if-j-eq0.false
    (ap (λ (k : ℕ). k + x.args.j) (c.sum_wire.ensures ∙ sum_same x.args.s.now x.args.list.now x.args.z x.args.e x.requires.0))
