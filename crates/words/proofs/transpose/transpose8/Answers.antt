-- `words::transpose::transpose8` meets its contract: three exchanges.
-- Assumes nothing.
use Rattle.words.proofs.Swaps.{three-swaps}
use native.Mathlib.Omega.{arith}
use Rattle.words.proofs.transpose.transpose8.Goals as goal

pub returns : goal.returns
returns c = three-swaps c.args.x _ _ _ (omega arith) c.swap-y.ensures c.swap-z.ensures c.swap.ensures
