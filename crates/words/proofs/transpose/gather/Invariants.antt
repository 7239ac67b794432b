-- `words::transpose::gather` meets its contract. The invariant: the first i bytes stand one above the other.
-- Assumes nothing.
use Rattle.words.specs.Steps.{at}
use Rattle.words.proofs.Turns.{blocks}
use mathlib.Core.Path.{◌≡◌}
use Prim.Native.Nat.{◌+◌, ◌*◌}
use Rattle.words.proofs.transpose.gather.Given as goal

abbrev pub invariant-loop-i : goal.invariant-loop-i
invariant-loop-i l = l.x ≡ blocks 8 (λ k. at l.s (l.j + k * l.step)) l.i
