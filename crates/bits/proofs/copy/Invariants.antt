-- `bits::copy` meets its contract: the loop's invariant is that the first k bytes are copied.
-- Assumes nothing.
use mathlib.Core.Path.{◌≡◌}
use lib.ListN.{length, take}
use Rattle.bits.proofs.copy.Given as goal

abbrev pub invariant-loop-k : goal.invariant-loop-k
invariant-loop-k l = (length l.to ≡ length l.from) × (take l.k l.to ≡ take l.k l.from)
