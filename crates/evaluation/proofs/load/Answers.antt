-- `evaluation::load` meets its contract. The loop's invariant: the first k wires are loaded.
-- Assumes nothing.
use mathlib.Core.Path.{◌∙◌}
use Rattle.circuit.proofs.Run.{load-none, load-turn}
use Rattle.evaluation.proofs.load.Goals as goal

pub loop-k-init : goal.loop-k-init
loop-k-init c = load-none _ _

pub loop-k-preserved : goal.loop-k-preserved
loop-k-preserved c =
    c.put_bit.ensures ∙ load-turn _ _ _ _ _ c.loop-k.invariant c.bit-b.ensures
