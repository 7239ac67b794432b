-- `bits::same` meets its contract. The loop's invariant: what is gathered is zero where the bytes passed are equal, and only there.
-- Assumes nothing.
use lib.ListN.{length}
use Rattle.bits.proofs.Equal.{Agree}
use Rattle.bits.proofs.same.Given as goal

abbrev pub invariant-loop-x : goal.invariant-loop-x
invariant-loop-x l = Agree l.a l.b (length l.yielded) l.diff
