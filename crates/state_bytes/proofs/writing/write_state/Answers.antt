-- `state_bytes::writing::write_state` meets its contract.
-- Assumes nothing.
use native.Mathlib.Omega.{arith}
use Rattle.state_bytes.proofs.Written.{slots-none, slot-more, slots_end, state-written}
use lib.ListN.{length-set}
use Rattle.state_bytes.proofs.writing.write_state.Goals as goal

pub loop-i-init : goal.loop-i-init
loop-i-init c = slots-none _ _

pub write_slot-requires : goal.write_slot-requires
write_slot-requires c = omega (arith, length-set c.args.out.now 0 c.asked_first.result, c.requires)

pub loop-i-preserved : goal.loop-i-preserved
loop-i-preserved c = slot-more _ _ _ _ _ _ c.job_of-j.result c.loop-i.invariant c.loop-i-test.true c.job_of-j.ensures c.write_slot.ensures

pub returns : goal.returns
returns c = state-written _ _ _ c.asked_first.ensures (slots_end _ _ c.args.out.now _ _ c.loop-i.invariant c.requires c.loop-i-test.false)
