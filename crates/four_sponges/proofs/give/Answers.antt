-- `four_sponges::give` meets its contract: the two parts of the slice, one after the other.
-- Assumes nothing.
use native.Mathlib.Omega.{arith}
use Prim.Native.Nat.{◌-◌, ◌%◌}
use lib.ListN.{length}
use Rattle.keccak.specs.Steps.{byte_at}
use Rattle.four.specs.Steps.{state_of}
use Rattle.four_sponges.proofs.Bytes.{filled-parts}
use Rattle.four_sponges.proofs.give.Goals as goal

pub returns : goal.returns
returns c =
    let x = c.args in
    let n = length x.out.now in
    filled-parts (byte_at (state_of x.k x.s.now)) (n - n % 8) x.out.now _ _ (omega arith)
    c.give_lanes.ensures c.give_bytes.ensures
