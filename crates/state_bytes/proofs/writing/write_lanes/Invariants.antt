-- `state_bytes::writing::write_lanes` meets its contract.
-- Assumes nothing.
use Rattle.state_bytes.proofs.Written.{Lanes}
use Rattle.state_bytes.proofs.writing.write_lanes.Given as goal

abbrev pub invariant-loop-i : goal.invariant-loop-i
invariant-loop-i l = Lanes l.lanes l.at l.i l.initial.out l.out
