-- `correcting::running::and_gate` meets its contract.
-- Assumes nothing.
use native.Mathlib.Omega.{arith}
use mathlib.Core.Path.{◌∙◌}
use Rattle.planes.proofs.Fits.{spare-small}
use Rattle.gates.proofs.Steps.{room-kept}
use Rattle.correcting.proofs.Turns.{and-done}
use Rattle.correcting.proofs.running.and_gate.Goals as goal

pub corrections_at-requires : goal.corrections_at-requires
corrections_at-requires c = let p = c.requires.0.memory in (p.few_wires, p.few_words)

pub overflow_mul-at : goal.overflow_mul-at
overflow_mul-at c = let p = c.requires.0.memory in omega (arith, spare-small c.args.l, c.corrections_at.ensures, p.few_wires, p.few_words)

pub overflow_add-at : goal.overflow_add-at
overflow_add-at c = let p = c.requires.0 in omega (arith, spare-small c.args.l, c.corrections_at.ensures, p.memory.few_wires, p.memory.few_words, p.order)

pub put_bit-requires : goal.put_bit-requires
put_bit-requires c = omega (arith, c.corrections_at.ensures, c.requires.1.0, c.requires.1.1)

pub put_tape-requires : goal.put_tape-requires
put_tape-requires c =
    (room-kept _ _ _ c.put_bit.auto.s c.requires.0.memory, omega (arith, c.broadcast_word-z.ensures, c.requires.0.order))

pub put_share-requires : goal.put_share-requires
put_share-requires c =
    (room-kept _ _ _ (c.put_tape.auto.memory ∙ c.put_bit.auto.s) c.requires.0.memory, c.requires.0.output)

pub put_masked-requires : goal.put_masked-requires
put_masked-requires c =
    (room-kept _ _ _ (c.put_share.auto.memory ∙ c.put_tape.auto.memory ∙ c.put_bit.auto.s) c.requires.0.memory, c.requires.0.output)

pub returns : goal.returns
returns c =
    let x = c.args in
    and-done x.l x.a x.b x.c x.t _ _ x.last _ _ _ _ _ _ _ _ _ _ x.memory.now _ _ _ _ c.mask_word-o.ensures c.broadcast_word-z.ensures
    c.masked-x.ensures c.masked-y.ensures c.share-sa.ensures c.share-sb.ensures c.tape-masks.ensures c.tape-products.ensures
    c.correct-r.ensures.correction_value c.correct-r.ensures.word_value c.correct-r.ensures.wire_value c.corrections_at.ensures c.put_bit.ensures c.put_tape.ensures c.put_share.ensures c.put_masked.ensures
