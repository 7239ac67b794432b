-- `state_bytes::decoding::read_flags` meets its contract.
-- Assumes nothing.
use Rattle.state_bytes.proofs.Filled.{Filled}
use Rattle.state_bytes.specs.Steps.{flag_in}
use Rattle.state_bytes.proofs.decoding.read_flags.Given as goal

abbrev pub invariant-loop-i : goal.invariant-loop-i
invariant-loop-i l = Filled 16 (flag_in l.s) l.i l.flags
