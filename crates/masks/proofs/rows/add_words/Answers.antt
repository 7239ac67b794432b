-- `masks::rows::add_words` meets its contract. The loop's invariant: k words are added.
-- Assumes nothing.
use native.Mathlib.Omega.{arith}
use Rattle.masks.proofs.Adding.{add_none, add-word-turn}
use Rattle.masks.proofs.rows.add_words.Goals as goal

pub loop-k-init : goal.loop-k-init
loop-k-init c = add_none _ _ _

pub loop-k-preserved : goal.loop-k-preserved
loop-k-preserved c = add-word-turn _ _ _ _ _ _ c.loop-k.invariant (omega arith) c.add_word.ensures
