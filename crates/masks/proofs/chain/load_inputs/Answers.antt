-- `masks::chain::load_inputs` meets its contract. The loop's invariant: k masks are loaded.
-- Assumes nothing.
use native.Mathlib.Omega.{arith}
use Rattle.words.proofs.Fill.{fill_none}
use Rattle.masks.proofs.Adding.{load-done, load-turn}
use Rattle.masks.proofs.chain.load_inputs.Goals as goal

pub loop-k-init : goal.loop-k-init
loop-k-init c = fill_none _ _ _

pub loop-k-preserved : goal.loop-k-preserved
loop-k-preserved c = load-turn _ _ _ _ _ c.loop-k.invariant (omega arith) c.bit.ensures

pub returns : goal.returns
returns c = load-done _ _ _ _ _ _ c.clear_part.ensures c.loop-k.invariant (omega arith)
