-- `evaluation::output_bit` meets its contract.
-- Assumes nothing.
use mathlib.Core.Path.{sym, ap, ◌∙◌}
use Prim.Native.Nat.{ℕ}
use native.Mathlib.Omega.{arith}
use Rattle.bits.specs.Bits.{bit_val, bit_at}
use Rattle.circuit.proofs.Run.{output-low, out-in, out-end}
use Rattle.evaluation.proofs.output_bit.Goals as goal

pub bit-requires : goal.bit-requires
bit-requires c =
    let x = c in
    omega (arith, output-low x.args.s.now x.args.outputs x.args.j x.requires.outputs c.if-j-outputs.true)

pub returns-then-j-outputs : goal.returns-then-j-outputs
returns-then-j-outputs c =
    let x = c.args in
    c.bit.ensures ∙ ap (λ (w : ℕ). bit_val (bit_at x.values.now w)) c.output_wire-wire.ensures
    ∙ sym (ap bit_val (out-in x.s.now x.values.now x.outputs x.j c.if-j-outputs.true))

pub returns : goal.returns
returns c =
    let x = c.args in
    sym (ap bit_val (out-end x.s.now x.values.now x.outputs x.j c.if-j-outputs.false))
