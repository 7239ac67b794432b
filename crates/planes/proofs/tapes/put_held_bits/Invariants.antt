-- `planes::tapes::put_held_bits` meets its contract. The loop's invariant: t bits are put.
-- Assumes nothing.
use mathlib.Core.Path.{◌≡◌}
use lib.ListN.{drop}
use Rattle.planes.specs.Steps.{put_bits}
use Rattle.planes.proofs.tapes.put_held_bits.Given as goal

abbrev pub invariant-loop-t : goal.invariant-loop-t
invariant-loop-t l = l.memory ≡ put_bits l.to l.hidden (drop l.a l.fn.memory) l.t l.fn.memory
