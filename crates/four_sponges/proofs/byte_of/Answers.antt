-- `four_sponges::byte_of` meets its contract: a shift and a remainder of the lane.
-- Assumes nothing.
use native.Mathlib.Omega.{arith}
use mathlib.Core.Path.{sym, ap}
use Prim.Native.Nat.{ℕ, ◌*◌, ◌/◌, ◌%◌, ◌^◌}
use Rattle.keccak.specs.Steps.{byte_at}
use Rattle.four_sponges.proofs.Bytes.{lane_of}
use Rattle.four_sponges.proofs.byte_of.Goals as goal

pub returns : goal.returns
unfolding byte_at
returns c =
    let x = c.args in
    ap (λ (y : ℕ). y / 2 ^ (8 * (x.b % 8)) % 256) (sym (lane_of x.s.now x.k (x.b / 8) (omega arith)))
