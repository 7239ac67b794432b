-- `first_waiting`: what the search finds from here on is what it finds from the start.
-- Assumes nothing.
use Rattle.schedule.specs.Steps.{first_waiting}
use mathlib.Core.Path.{◌≡◌}
use Rattle.schedule.proofs.first_waiting.Given as goal

abbrev pub invariant-loop-i : goal.invariant-loop-i
invariant-loop-i l = first_waiting l.waiting l.i l.to ≡ first_waiting l.waiting l.from l.to
