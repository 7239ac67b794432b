-- `correcting::loading::load_tapes` meets its contract: the tapes are loaded, the words after them cleared.
-- Assumes nothing.
use native.Mathlib.Omega.{arith}
use Rattle.gates.proofs.Steps.{room-kept}
use Rattle.correcting.proofs.Turns.{tapes-done}
use Rattle.correcting.proofs.loading.load_tapes.Goals as goal

pub load_rows-requires : goal.load_rows-requires
load_rows-requires c = let p = c.requires in (p.0, (p.1.0, (p.1.1.0, omega (arith, p.1.1.1))))

pub broadcast_word-requires : goal.broadcast_word-requires
broadcast_word-requires c = omega (arith, c.requires.0.few_words)

pub overflow_add-l : goal.overflow_add-l
overflow_add-l c = omega (arith, c.requires.0.few_words)

pub clear_words-requires : goal.clear_words-requires
clear_words-requires c = (room-kept _ _ _ c.load_rows.auto.memory c.requires.0, omega (arith, c.broadcast_word.ensures))

pub returns : goal.returns
returns c =
    let x = c.args in
    tapes-done x.l x.n x.len _ x.memory.now _ _ c.broadcast_word.ensures c.load_rows.ensures c.clear_words.ensures
