-- `four_sponges::give_bytes` meets its contract. The loop's invariant: the first i bytes are in the slice.
-- Assumes nothing.
use Prim.Native.Nat.{◌+◌}
use lib.ListN.{length}
use Rattle.keccak.specs.Steps.{byte_at}
use Rattle.four.specs.Steps.{state_of}
use Rattle.four_sponges.proofs.Bytes.{Filled}
use Rattle.four_sponges.proofs.give_bytes.Given as goal

abbrev pub invariant-loop-i : goal.invariant-loop-i
invariant-loop-i l = Filled (length l.initial.out) (λ j. byte_at (state_of l.k l.s) (l.from + j)) l.i l.out
