-- `bristol_text::stop_at` meets its contract. The loop's invariant speaks of what remains: from i the run stops where it does from the start.
-- Assumes nothing.
use mathlib.Core.Path.{◌≡◌}
use mathlib.Core.Bool.{Bool}
use Prim.Native.Nat.{ℕ}
use Rattle.bristol_text.specs.Steps.{Tells, stop}
use Rattle.bristol_text.proofs.stop_at.Given as goal

abbrev pub invariant-loop-i : goal.invariant-loop-i
invariant-loop-i g l = (p : ℕ → Bool) → Tells (goal.F-post g l.passes) p → stop p l.s l.i ≡ stop p l.s l.at
