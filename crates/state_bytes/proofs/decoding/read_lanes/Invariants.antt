-- `state_bytes::decoding::read_lanes` meets its contract.
-- Assumes nothing.
use Prim.Native.Nat.{ℕ, ◌+◌, ◌*◌}
use Rattle.bits.specs.Bytes.{le_at}
use Rattle.state_bytes.proofs.Filled.{Filled}
use Rattle.state_bytes.proofs.decoding.read_lanes.Given as goal

abbrev pub invariant-loop-i : goal.invariant-loop-i
invariant-loop-i l = Filled 25 (λ (k : ℕ). le_at 8 l.s (l.at + 8 * k)) l.i l.lanes
