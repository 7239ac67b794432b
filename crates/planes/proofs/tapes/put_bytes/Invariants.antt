-- `planes::tapes::put_bytes` meets its contract. The loop's invariant: the bits of k bytes are put.
-- Assumes nothing.
use mathlib.Core.Path.{◌≡◌}
use Prim.Native.Nat.{◌*◌}
use Rattle.planes.specs.Steps.{put_bits}
use Rattle.planes.proofs.tapes.put_bytes.Given as goal

abbrev pub invariant-loop-k : goal.invariant-loop-k
invariant-loop-k l = l.memory ≡ put_bits l.to l.hidden l.row (8 * l.k) l.initial.memory
