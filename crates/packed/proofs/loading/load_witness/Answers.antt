-- `packed::loading::load_witness` meets its contract.
-- Assumes nothing.
use native.Mathlib.Omega.{arith}
use Rattle.gates.proofs.Steps.{room-kept}
use Rattle.walk.proofs.Turns.{layout-room, layout-wires}
use Rattle.packed.proofs.Runs.{layout-inputs, words-asked, masked-given, values-given}
use Rattle.packed.proofs.loading.load_witness.Goals as goal

pub layout-l-requires : goal.layout-l-requires
layout-l-requires c = omega (arith, c.requires.0.room.few_wires)

pub tape_bytes-len-requires : goal.tape_bytes-len-requires
tape_bytes-len-requires c = omega (arith, c.requires.0.room.few_words)

pub load_words-requires : goal.load_words-requires
load_words-requires c = words-asked _ _ _ _ c.requires.0 _ _ c.layout-l.ensures c.tape_bytes-len.ensures

pub mask_inputs-requires : goal.mask_inputs-requires
mask_inputs-requires c =
    let p = c.requires in (
      room-kept _ _ _ c.load_words.auto.memory (layout-room _ _ c.layout-l.ensures _ p.0.room),
      (omega (arith, layout-inputs _ _ c.layout-l.ensures), (omega (arith, p.1.0), p.1.1)),
    )

pub load_inputs-requires : goal.load_inputs-requires
load_inputs-requires c =
    let p = c.requires in (
      room-kept _ _ _ c.load_words.auto.memory (layout-room _ _ c.layout-l.ensures _ p.0.room),
      (omega (arith, layout-wires _ _ c.layout-l.ensures), (omega (arith, layout-inputs _ _ c.layout-l.ensures), omega (arith, p.1.1, c.mask_inputs.auto.masked))),
    )

pub returns : goal.returns
returns c =
    let x = c.args in
    let p = c.requires.0 in
    let v = masked-given x.s.now x.z x.n x.memory.now p _ _ c.layout-l.ensures c.tape_bytes-len.ensures _ c.load_words.ensures x.witness.now _ c.mask_inputs.ensures in record {
      masked_after = v;
      memory_after = values-given x.s.now x.z x.n x.memory.now p _ _ c.layout-l.ensures c.tape_bytes-len.ensures _ c.load_words.ensures _ _ _ v c.load_inputs.ensures;
    }
