-- `planes::tapes::put_bits` meets its contract. The loop's invariant: t bits are put.
-- Assumes nothing.
use mathlib.Core.Path.{◌≡◌}
use Rattle.planes.specs.Steps.{put_bits}
use Rattle.planes.proofs.tapes.put_bits.Given as goal

abbrev pub invariant-loop-t : goal.invariant-loop-t
invariant-loop-t l = l.memory ≡ put_bits l.to l.hidden l.row l.t l.fn.memory
