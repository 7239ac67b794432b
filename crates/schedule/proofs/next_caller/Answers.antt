-- `next_caller`: those from the first asked up to 15, then those before it.
-- Assumes nothing.
use Rattle.schedule.specs.Steps.{first_waiting}
use Rattle.schedule.proofs.Flags.{begin-le, caller-first, caller-second}
use native.Mathlib.Omega.{arith}
use mathlib.Core.Path.{ap, ◌∙◌}
use Prim.Native.Nat.{ℕ}
use Rattle.schedule.proofs.next_caller.Goals as goal

pub returns-then-c-lt-CALLERS : goal.returns-then-c-lt-CALLERS
returns-then-c-lt-CALLERS c =
    let s = c.args in
    let e = c.first_waiting-c.ensures ∙ ap (λ (k : ℕ). first_waiting s.waiting k 16) c.asked_first-from.ensures in
    e ∙ caller-first s.begin s.waiting (omega (arith, e, c.if-c-lt-CALLERS.true))

pub first_waiting-requires : goal.first_waiting-requires
first_waiting-requires c = omega (arith, c.asked_first-from.ensures, begin-le c.args.begin)

pub returns : goal.returns
returns c =
    let s = c.args in
    let e = c.first_waiting-c.ensures ∙ ap (λ (k : ℕ). first_waiting s.waiting k 16) c.asked_first-from.ensures in
    c.first_waiting.ensures ∙ ap (first_waiting s.waiting 0) c.asked_first-from.ensures ∙ caller-second s.begin s.waiting (omega (arith, e, c.if-c-lt-CALLERS.false))
