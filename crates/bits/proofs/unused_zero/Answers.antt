-- `bits::unused_zero` meets its contract. The loop's invariant: what is gathered is zero where the bits from bit k on of the bytes passed are, and only there.
-- Assumes nothing.
use native.Mathlib.Omega.{arith}
use mathlib.Core.Path.{sym}
use Prim.Native.Nat.{◌/◌}
use Rattle.bits.proofs.Packing.{clear_first, clear-more, clear-all, all-unused}
use Rattle.bits.proofs.unused_zero.Goals as goal

pub returns-then-s-j : goal.returns-then-s-j
returns-then-s-j c =
    let x = c.args in
    sym (all-unused x.k x.s.now (λ i l m. absurd (omega arith)))

pub loop-i-init : goal.loop-i-init
loop-i-init c =
    let k = c.args.k in
    (omega arith, clear_first _ k (c.shared_slice_known-1.given (k / 8)).fits)

pub loop-i-preserved : goal.loop-i-preserved
loop-i-preserved c =
    let l = c.loop-i in
    (omega arith, clear-more _ _ _ _ (c.shared_slice_known-in-loop-i-1.given l.i).fits l.invariant.0 l.invariant.1)

pub returns : goal.returns
returns c =
    let x = c.args in
    let l = c.loop-i in
    clear-all x.s.now x.k l.i l.rest c.loop-i-test.false l.invariant.1
