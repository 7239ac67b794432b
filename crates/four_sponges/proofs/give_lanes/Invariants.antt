-- `four_sponges::give_lanes` meets its contract. The loop's invariant: the bytes of the first i lanes are in the slice.
-- Assumes nothing.
use Prim.Native.Nat.{◌*◌}
use lib.ListN.{length}
use Rattle.keccak.specs.Steps.{byte_at}
use Rattle.four.specs.Steps.{state_of}
use Rattle.four_sponges.proofs.Bytes.{Filled}
use Rattle.four_sponges.proofs.give_lanes.Given as goal

abbrev pub invariant-loop-i : goal.invariant-loop-i
invariant-loop-i l = Filled (length l.initial.out) (byte_at (state_of l.k l.s)) (8 * l.i) l.out
