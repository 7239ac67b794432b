-- `bristol_text::value` meets its contract. The loop's invariant: the digits that remain, after those passed, have the whole value.
-- Assumes nothing.
use native.Mathlib.Omega.{arith}
use Rattle.bristol_text.proofs.Digits.{counted-low, counted-high, counted-small, counted-more}
use Rattle.bristol_text.proofs.Numbers.{digits_start, digits-all}
use Rattle.bristol_text.proofs.value.Goals as goal

pub loop-x-init : goal.loop-x-init
loop-x-init c = digits_start c.args.l.now c.args.from c.args.to c.requires

pub overflow_sub-x : goal.overflow_sub-x
overflow_sub-x c =
    counted-low _ _ _ c.loop-x.invariant c.loop-x-test.true

pub overflow_mul-n : goal.overflow_mul-n
overflow_mul-n c =
    omega (arith, counted-small _ _ _ c.loop-x.invariant c.loop-x-test.true)

pub overflow_add-n : goal.overflow_add-n
overflow_add-n c =
    omega (arith, counted-small _ _ _ c.loop-x.invariant c.loop-x-test.true, counted-high _ _ _ c.loop-x.invariant c.loop-x-test.true, c.from.ensures)

pub loop-x-preserved : goal.loop-x-preserved
loop-x-preserved c =
    rw c.from.ensures (counted-more _ _ _ c.loop-x.invariant c.loop-x-test.true)

pub returns : goal.returns
returns c =
    digits-all c.args.l.now c.args.from c.args.to c.requires _ _ c.loop-x.invariant c.loop-x-test.false
