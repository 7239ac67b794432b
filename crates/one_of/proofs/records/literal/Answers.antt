-- `one_of::records::literal` meets its contract: by the bit of the entry.
-- Assumes nothing.
use mathlib.Core.Path.{ap, ◌∙◌}
use native.Mathlib.Omega.{arith}
use Rattle.bits.specs.Bits.{oct}
use Rattle.circuit.specs.File.{fields_of}
use Rattle.one_of.proofs.Coded.{bit-inside, literal-one, literal-zero}
use Rattle.one_of.proofs.records.literal.Goals as goal

pub bit-b-requires : goal.bit-b-requires
bit-b-requires c =
    let x = c in
    bit-inside x.args.z.outputs x.args.list.now x.args.e x.args.j _ _ c.oct-len.ensures c.row-entry.ensures x.requires.1.0 x.requires.1.1

pub returns-then-b-eq1 : goal.returns-then-b-eq1
returns-then-b-eq1 c =
    let x = c in
    literal-one (fields_of x.args.s.now) x.args.list.now x.args.e x.args.j _ _ _ _ (c.oct-len.ensures ∙ ap oct x.requires.0.laid.outputs) c.row-entry.ensures c.bit-b.ensures c.if-b-eq1.true c.field.ensures

pub returns : goal.returns
returns c =
    let x = c in
    literal-zero (fields_of x.args.s.now) x.args.list.now x.args.e x.args.j _ _ _ _ (c.oct-len.ensures ∙ ap oct x.requires.0.laid.outputs) c.row-entry.ensures c.bit-b.ensures c.if-b-eq1.false
    (omega (arith, x.requires.0.laid.inputs, x.requires.0.laid.gates))
