-- `correcting::loading::load_masks` meets its contract. The loop's invariant: w wires are loaded.
-- Assumes nothing.
use native.Mathlib.Omega.{arith}
use mathlib.Core.Path.{◌∙◌}
use Rattle.bits.specs.Bits.{bit_at}
use Rattle.words.specs.Words.{parity}
use Rattle.gates.proofs.Steps.{room-kept}
use Rattle.correcting_gate.proofs.Words.{bit-low}
use Rattle.correcting.proofs.Turns.{masks-none, masks-turn}
use Rattle.correcting.proofs.loading.load_masks.Goals as goal

pub loop-w-init : goal.loop-w-init
loop-w-init c = masks-none _ _ _

pub tape-x-requires : goal.tape-x-requires
tape-x-requires c = (room-kept _ _ _ c.loop-w.auto.memory c.requires.0, omega arith)

pub put_share-requires : goal.put_share-requires
put_share-requires c = (room-kept _ _ _ c.loop-w.auto.memory c.requires.0, omega arith)

pub overflow_mul-k : goal.overflow_mul-k
overflow_mul-k c = omega (arith, bit-low _ (parity 64 c.tape-x.result) c.parity-k.ensures)

pub overflow_add-v : goal.overflow_add-v
overflow_add-v c = omega (arith, bit-low _ (parity 64 c.tape-x.result) c.parity-k.ensures, bit-low _ (bit_at c.args.values.now c.loop-w.w) c.bit-v.ensures)

pub put_masked-requires : goal.put_masked-requires
put_masked-requires c = (room-kept _ _ _ (c.put_share.auto.memory ∙ c.loop-w.auto.memory) c.requires.0, omega arith)

pub loop-w-preserved : goal.loop-w-preserved
loop-w-preserved c =
    masks-turn _ _ _ _ _ _ _ _ _ _ c.loop-w.invariant c.tape-x.ensures c.bit-v.ensures c.parity-k.ensures c.put_share.ensures c.put_masked.ensures
