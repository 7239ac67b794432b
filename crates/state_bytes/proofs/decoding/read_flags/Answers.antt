-- `state_bytes::decoding::read_flags` meets its contract.
-- Assumes nothing.
use mathlib.Core.Path.{refl}
use Rattle.state_bytes.proofs.Filled.{filled_none, filled_more, filled-end}
use Rattle.state_bytes.proofs.decoding.read_flags.Goals as goal

pub loop-i-init : goal.loop-i-init
loop-i-init c = filled_none 16 _ _ refl

pub loop-i-preserved : goal.loop-i-preserved
loop-i-preserved c = filled_more 16 _ _ _ _ c.loop-i.invariant c.loop-i-test.true refl

pub returns : goal.returns
returns c = filled-end 16 _ _ _ c.loop-i.invariant c.loop-i-test.false
