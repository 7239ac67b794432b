-- `bristol_lines::heading::sizes` meets its contract. The loop's invariant: the sizes that are left, with the sum so far, give what all of them give.
-- Assumes nothing.
use native.Mathlib.Omega.{arith}
use mathlib.Core.Path.{◌≡◌, sym, ◌∙◌}
use Prim.Native.Nat.{◌+◌, ◌-◌}
use Rattle.bristol_lines.proofs.Heads.{summed-none, summed-long, summed-bad, summed-more, summed-all, summed-short, size_small}
use Rattle.bristol_lines.proofs.heading.sizes.Goals as goal

pub loop-init : goal.loop-init
loop-init c = summed-none c.args.l.now c.args.n c.args.end c.requires.1

pub returns-then-l-at : goal.returns-then-l-at
returns-then-l-at c =
    let x = c.args in
    summed-short x.l.now x.n x.end _ _ _ c.loop.invariant c.if-l-at.true (λ z. omega arith)

pub returns-in_err-size : goal.returns-in_err-size
returns-in_err-size c =
    let x = c.args in
    rw c.from_residual.ensures (summed-bad x.l.now x.n x.end _ _ _ c.loop.invariant c.if-l-at.false (sym c.read_number.ensures ∙ c.in_err-size.was))

pub overflow_add-sum : goal.overflow_add-sum
overflow_add-sum c =
    let x = c.args in
    let s = size_small x.l.now x.n x.end _ _ _ c.loop.invariant c.if-l-at.false _ _ (sym c.read_number.ensures ∙ c.in_ok-size.was) in
    omega (arith, c.loop.invariant.small)

pub loop-preserved : goal.loop-preserved
loop-preserved c =
    let x = c.args in
    let e : x.n - (c.loop.counter + 1) ≡ x.n - c.loop.counter - 1 = omega arith in
    rw e (summed-more x.l.now x.n x.end _ _ _ c.loop.invariant c.if-l-at.false _ _ (sym c.read_number.ensures ∙ c.in_ok-size.was) (λ z. omega arith))

pub returns-then-at-l : goal.returns-then-at-l
returns-then-at-l c =
    let x = c.args in
    summed-long x.l.now x.n x.end _ _ _ c.loop.invariant c.if-at-l.true (omega arith)

pub returns : goal.returns
returns c =
    let x = c.args in
    summed-all x.l.now x.n x.end _ _ _ c.loop.invariant c.if-at-l.false (omega arith)
