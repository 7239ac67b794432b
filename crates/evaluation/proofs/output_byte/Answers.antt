-- `evaluation::output_byte` meets its contract. The loop's invariant: the sum is the number of the first t bits.
-- Assumes nothing.
use mathlib.Core.Bool.{Bool, false}
use mathlib.Core.Path.{◌≡◌, refl, ◌∙◌}
use Prim.Native.Nat.{ℕ, ◌+◌, ◌*◌}
use native.Mathlib.Numerals.{add-one}
use native.Mathlib.Nat.{pow-suc, mod-eq_of_lt}
use native.Mathlib.Omega.{arith}
use lib.ListN.{get_or}
use Rattle.bits.specs.Bits.{from_bits}
use Rattle.bits.proofs.Numbers.{from_bits-lt}
use Rattle.circuit.specs.Steps.{out_bits, out_byte}
use Rattle.circuit.proofs.Run.{byte-turn, byte-room}
use Rattle.evaluation.proofs.output_byte.Goals as goal

pub loop-t-init : goal.loop-t-init
unfolding from_bits
loop-t-init c = (refl, refl)

pub overflow_add-sum : goal.overflow_add-sum
overflow_add-sum c =
    let l = c.loop-t in
    omega (arith, byte-room _ _ _ _ _ c.loop-t-test.true l.invariant.1 l.invariant.0 c.output_bit-b.ensures)

pub loop-t-preserved : goal.loop-t-preserved
loop-t-preserved c =
    let l = c.loop-t in
    (rw (add-one, pow-suc, l.invariant.0), byte-turn _ _ _ _ _ l.invariant.1 l.invariant.0 c.output_bit-b.ensures)

pub returns : goal.returns
unfolding out_byte
returns c =
    let l = c.loop-t in
    let e : l.t ≡ 8 = omega arith in
    let x = c.args in
    let f : ℕ → Bool = λ k. get_or (out_bits x.s.now x.values.now x.outputs) (8 * x.j + k) false in
    let q : l.sum ≡ from_bits 8 f = rw e at l.invariant.1 in
    mod-eq_of_lt (omega (arith, from_bits-lt 8 f)) ∙ q
