-- `packed::loading::mask_inputs` meets its contract. The loop's invariant: the first w bits are put.
-- Assumes nothing.
use native.Mathlib.Omega.{arith}
use mathlib.Core.Path.{◌∙◌}
use Rattle.walk.proofs.Turns.{bits_none, bits-turn, bits-all}
use Rattle.packed.specs.Steps.{masked_bit}
use Rattle.packed.proofs.Loads.{masked-turn}
use Rattle.packed.proofs.loading.mask_inputs.Goals as goal

pub loop-w-init : goal.loop-w-init
loop-w-init c =
    let x = c.args in
    c.clear.ensures ∙ bits_none x.count (masked_bit x.l x.witness.now x.memory.now) _ c.requires.1.1.1

pub loop-w-preserved : goal.loop-w-preserved
loop-w-preserved c =
    let l = c.loop-w in
    let x = c.args in
    c.put_bit.ensures
    ∙ bits-turn x.count (masked_bit x.l x.witness.now x.memory.now) l.w _ l.masked (omega arith)
    (masked-turn x.l x.witness.now x.memory.now l.w _ _ _ c.bit-v.ensures c.tape.ensures c.parity-x.ensures) l.invariant

pub returns : goal.returns
returns c =
    let l = c.loop-w in
    let x = c.args in
    l.invariant ∙ bits-all x.count (masked_bit x.l x.witness.now x.memory.now) l.w (omega arith)
