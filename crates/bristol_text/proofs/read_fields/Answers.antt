-- `bristol_text::read_fields` meets its contract. The loop's invariant: what is told of the numbers that are left is told of all.
-- Assumes nothing.
use Rattle.std.proofs.Common.{rules}
use native.Mathlib.Omega.{arith}
use mathlib.Core.Path.{sym, ◌∙◌}
use Prim.Native.Nat.{ℕ}
use lib.ListN.{length-replicate}
use Rattle.bristol_text.proofs.Before.{gathered_none, field-after, gathered-set, gathered-kept, gathered-end, gathered-bad, gathered-last}
use Rattle.bristol_text.specs.Steps.{in_token}
use Rattle.bristol_text.proofs.read_fields.Goals as goal
use Rattle.bristol_text.proofs.read_fields.Goals.{then-count-lt5, else-count-lt5}

pub loop-at-init : goal.loop-at-init
loop-at-init c = gathered_none c.args.l.now _ (length-replicate {A = ℕ} 5 0)

pub returns-then-stop_at-l : goal.returns-then-stop_at-l
returns-then-stop_at-l c =
    gathered-bad c.args.l.now _ _ _ c.loop-at.invariant (sym c.read_field.ensures ∙ c.in_default.is) (omega (arith, c.stop_at.ensures in_token (λ y b t. search rules)))

pub returns-in_default : goal.returns-in_default
returns-in_default c =
    gathered-last c.args.l.now _ _ _ c.loop-at.invariant (sym c.read_field.ensures ∙ c.in_default.is) (omega (arith, c.stop_at.ensures in_token (λ y b t. search rules)))

pub overflow_add-count : goal.overflow_add-count
overflow_add-count c =
    let m = c.loop-at in
    omega (arith, m.invariant.few, m.invariant.inside)

pub loop-at-smaller : goal.loop-at-smaller
loop-at-smaller c =
    let x = c in
    let m = c.loop-at in
    omega (arith, m.invariant.inside, field-after x.args.l.now _ _ _ (sym c.read_field.ensures ∙ c.in-Some.is))

pub loop-at-preserved : goal.loop-at-preserved
loop-at-preserved c =
    let x = c in
    let m = c.loop-at in
    let f = sym c.read_field.ensures ∙ c.in-Some.is in
    elim c.if-count-lt5.branch [
      | then-count-lt5 k ↦ rw k.numbers-is (gathered-set x.args.l.now _ _ _ m.invariant _ _ f k.if-count-lt5.true)
      | else-count-lt5 k ↦ rw k.numbers-is (gathered-kept x.args.l.now _ _ _ m.invariant _ _ f k.if-count-lt5.false)
    ]

pub returns : goal.returns
returns c =
    gathered-end c.args.l.now _ _ _ c.loop-at.invariant c.loop-at-test.false
