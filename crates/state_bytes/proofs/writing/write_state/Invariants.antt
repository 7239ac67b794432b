-- `state_bytes::writing::write_state` meets its contract.
-- Assumes nothing.
use Prim.Native.Nat.{ℕ}
use Rattle.state_bytes.proofs.Written.{Slots}
use Rattle.shared.specs.StateSteps.{slot_of}
use Rattle.state_bytes.specs.Bytes.{slot_bytes}
use Rattle.state_bytes.proofs.writing.write_state.Given as goal

abbrev pub invariant-loop-i : goal.invariant-loop-i
invariant-loop-i l = Slots (λ (c : ℕ). slot_bytes (slot_of l.flags l.jobs c)) l.i l.initial.out l.out
