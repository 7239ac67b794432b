-- `packed::loading::load_inputs` meets its contract. The loop's invariant: w wires are loaded.
-- Assumes nothing.
use native.Mathlib.Omega.{arith}
use mathlib.Core.Path.{◌∙◌}
use Rattle.gates.proofs.Steps.{room-kept}
use Rattle.packed.proofs.Loads.{inputs-none, inputs-turn}
use Rattle.packed.proofs.loading.load_inputs.Goals as goal

pub loop-w-init : goal.loop-w-init
loop-w-init c = inputs-none _ _ _

pub tape-x-requires : goal.tape-x-requires
tape-x-requires c = (room-kept _ _ _ c.loop-w.auto.memory c.requires.0, omega arith)

pub put_share-requires : goal.put_share-requires
put_share-requires c = (room-kept _ _ _ c.loop-w.auto.memory c.requires.0, omega arith)

pub put_masked-requires : goal.put_masked-requires
put_masked-requires c = (room-kept _ _ _ (c.put_share.auto.memory ∙ c.loop-w.auto.memory) c.requires.0, omega arith)

pub loop-w-preserved : goal.loop-w-preserved
loop-w-preserved c = inputs-turn _ _ _ _ _ _ _ _ _ c.loop-w.invariant c.tape-x.ensures c.bit.ensures c.put_share.ensures c.put_masked.ensures
