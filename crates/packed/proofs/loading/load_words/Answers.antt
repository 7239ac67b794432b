-- `packed::loading::load_words` meets its contract: the tapes are loaded, the words after them cleared, the corrections put.
-- Assumes nothing.
use native.Mathlib.Omega.{arith}
use mathlib.Core.Path.{◌∙◌}
use Rattle.gates.proofs.Steps.{room-kept}
use Rattle.packed.proofs.Loads.{words-done}
use Rattle.packed.proofs.loading.load_words.Goals as goal

pub load_rows-requires : goal.load_rows-requires
load_rows-requires c = let p = c.requires in (p.0, (p.1.1.0, (p.1.1.1.0, omega (arith, p.1.1.1.1))))

pub broadcast_word-requires : goal.broadcast_word-requires
broadcast_word-requires c = omega (arith, c.requires.0.few_words)

pub overflow_add-l : goal.overflow_add-l
overflow_add-l c = omega (arith, c.requires.0.few_words)

pub clear_words-requires : goal.clear_words-requires
clear_words-requires c =
    (room-kept _ _ _ c.load_rows.auto.memory c.requires.0, omega (arith, c.broadcast_word.ensures))

pub overflow_sub-n : goal.overflow_sub-n
overflow_sub-n c = omega (arith, c.requires.1.0)

pub put_corrections-requires : goal.put_corrections-requires
put_corrections-requires c =
    let p = c.requires in
    let e = c.clear_words.auto.memory ∙ c.load_rows.auto.memory in
    (room-kept _ _ _ e p.0, omega (arith, e, p.1.1.1.0))

pub returns : goal.returns
returns c =
    let x = c.args in
    let p = c.requires in
    words-done x.l x.n x.len x.memory.now p.0.room p.1.1.0 p.1.1.1.1 _ _ _ _ c.broadcast_word.ensures
    c.load_rows.ensures c.clear_words.ensures c.put_corrections.ensures
