-- `packed::loading::clear_words` meets its contract. The loop's invariant: t words are cleared.
-- Assumes nothing.
use native.Mathlib.Omega.{arith}
use Rattle.gates.proofs.Steps.{room-kept}
use Rattle.packed.proofs.Loads.{cleared-none, cleared-turn}
use Rattle.packed.proofs.loading.clear_words.Goals as goal

pub loop-t-init : goal.loop-t-init
loop-t-init c = cleared-none _ _ _

pub overflow_add-q : goal.overflow_add-q
overflow_add-q c = omega (arith, c.requires.0.few_words)

pub put_tape-requires : goal.put_tape-requires
put_tape-requires c = (room-kept _ _ _ c.loop-t.auto.memory c.requires.0, omega arith)

pub loop-t-preserved : goal.loop-t-preserved
loop-t-preserved c = cleared-turn _ _ _ _ _ _ c.loop-t.invariant c.put_tape.ensures
