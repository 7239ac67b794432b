-- `planes::tapes::put_byte` meets its contract. The loop's invariant: t bits are put.
-- Assumes nothing.
use mathlib.Core.Path.{◌≡◌}
use mathlib.Core.List.{[], ◌∷◌}
use Rattle.planes.specs.Steps.{put_bits}
use Rattle.planes.proofs.tapes.put_byte.Given as goal

abbrev pub invariant-loop-t : goal.invariant-loop-t
invariant-loop-t l = l.memory ≡ put_bits l.to l.hidden (l.x ∷ []) l.t l.initial.memory
