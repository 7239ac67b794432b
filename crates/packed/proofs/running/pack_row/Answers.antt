-- `packed::running::pack_row` meets its contract. The loop's invariant: the first t bits are put.
-- Assumes nothing.
use native.Mathlib.Omega.{arith}
use mathlib.Core.Path.{◌≡◌, ap₂, ◌∙◌}
use Prim.Native.Nat.{ℕ, ◌*◌}
use Rattle.bits.specs.Bits.{pack}
use Rattle.walk.proofs.Turns.{firsts}
use Rattle.packed.specs.Steps.{sent_bit}
use Rattle.packed.proofs.Loads.{sent-turn}
use Rattle.packed.proofs.Rows.{row-none, row-turn}
use Rattle.packed.proofs.running.pack_row.Goals as goal

pub loop-t-init : goal.loop-t-init
loop-t-init c =
    let x = c.args in
    c.clear.ensures ∙ row-none (sent_bit x.l x.memory.now x.i) _ _ c.clear.auto.s

pub broadcast_word-requires : goal.broadcast_word-requires
broadcast_word-requires c = omega (arith, c.requires.0.few_words, c.requires.1.1.0)

pub tape-x-requires : goal.tape-x-requires
tape-x-requires c = (c.requires.0, omega (arith, c.broadcast_word.ensures, c.requires.1.1.0))

pub loop-t-preserved : goal.loop-t-preserved
loop-t-preserved c =
    let l = c.loop-t in
    let x = c.args in
    c.put_bit.ensures
    ∙ row-turn (sent_bit x.l x.memory.now x.i) _ _ c.clear.auto.s x.count l.t _ l.out c.requires.1.1.1 (omega arith)
    (sent-turn x.l x.memory.now x.i l.t _ _ _ c.broadcast_word.ensures c.tape-x.ensures c.word_bit.ensures) l.invariant

pub returns : goal.returns
returns c =
    let l = c.loop-t in
    let x = c.args in
    let e : l.t ≡ x.count = omega arith in
    l.invariant ∙ ap₂ (λ (k j : ℕ). pack (firsts (8 * k) (sent_bit x.l x.memory.now x.i) j)) c.clear.auto.s e
