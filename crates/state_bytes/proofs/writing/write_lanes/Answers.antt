-- `state_bytes::writing::write_lanes` meets its contract.
-- Assumes nothing.
use borrow.Author.Rules.{rules}
use Rattle.state_bytes.proofs.Written.{lanes-none, lanes-more, lanes_end}
use Rattle.state_bytes.proofs.writing.write_lanes.Goals as goal

pub loop-i-init : goal.loop-i-init
loop-i-init c = lanes-none _ _ _

pub loop-i-preserved : goal.loop-i-preserved
loop-i-preserved c = lanes-more _ _ _ _ _ _ c.loop-i.invariant c.loop-i-test.true (search rules) c.write_u64.ensures

pub returns : goal.returns
returns c = lanes_end _ _ _ _ _ c.loop-i.invariant (search rules) c.loop-i-test.false
