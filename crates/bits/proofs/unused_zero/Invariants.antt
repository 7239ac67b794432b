-- `bits::unused_zero` meets its contract. The loop's invariant: what is gathered is zero where the bits from bit k on of the bytes passed are, and only there.
-- Assumes nothing.
use Prim.Native.Nat.{◌*◌, ◌≤◌}
use Rattle.bits.proofs.Packing.{Clear}
use Rattle.bits.proofs.unused_zero.Given as goal

abbrev pub invariant-loop-i : goal.invariant-loop-i
invariant-loop-i l = (l.k ≤ 8 * l.i) × Clear l.s l.k l.i l.rest
