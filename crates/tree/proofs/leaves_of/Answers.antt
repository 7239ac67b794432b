-- `tree::leaves_of` meets its contract: a shift by h is a power of 2.
-- Assumes nothing.
use Rattle.tree.proofs.Nodes.{one_shl}
use Rattle.tree.proofs.leaves_of.Goals as goal

pub returns : goal.returns
returns c = one_shl _ c.requires
