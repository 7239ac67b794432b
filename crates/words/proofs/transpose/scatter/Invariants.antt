-- `words::transpose::scatter` meets its contract. The invariant: i bytes are stored.
-- Assumes nothing.
use Rattle.words.specs.Steps.{scattered}
use mathlib.Core.Path.{◌≡◌}
use Rattle.words.proofs.transpose.scatter.Given as goal

abbrev pub invariant-loop-i : goal.invariant-loop-i
invariant-loop-i l = l.memory ≡ scattered l.i l.x l.j l.step l.initial.memory
