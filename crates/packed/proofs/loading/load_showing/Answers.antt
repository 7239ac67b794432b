-- `packed::loading::load_showing` meets its contract.
-- Assumes nothing.
use native.Mathlib.Omega.{arith}
use mathlib.Core.Path.{◌∙◌}
use Rattle.gates.proofs.Steps.{room-kept}
use Rattle.walk.proofs.Turns.{layout-room, layout-wires, layout-ands, layout-outputs}
use Rattle.packed.proofs.Runs.{layout-inputs, words-asked, showing-given}
use Rattle.packed.proofs.loading.load_showing.Goals as goal

pub layout-l-requires : goal.layout-l-requires
layout-l-requires c = omega (arith, c.requires.0.room.few_wires)

pub tape_bytes-len-requires : goal.tape_bytes-len-requires
tape_bytes-len-requires c = omega (arith, c.requires.0.room.few_words)

pub broadcast_word-first-requires : goal.broadcast_word-first-requires
broadcast_word-first-requires c =
    omega (arith, c.requires.0.room.few_words, layout-inputs _ _ c.layout-l.ensures, layout-ands _ _ c.layout-l.ensures)

pub broadcasts-sent-requires : goal.broadcasts-sent-requires
broadcasts-sent-requires c = omega (arith, c.requires.0.room.few_words)

pub load_words-requires : goal.load_words-requires
load_words-requires c = words-asked _ _ _ _ c.requires.0 _ _ c.layout-l.ensures c.tape_bytes-len.ensures

pub load_inputs-requires : goal.load_inputs-requires
load_inputs-requires c =
    let p = c.requires in (
      room-kept _ _ _ c.load_words.auto.memory (layout-room _ _ c.layout-l.ensures _ p.0.room),
      (omega (arith, layout-wires _ _ c.layout-l.ensures), (omega (arith, layout-inputs _ _ c.layout-l.ensures), omega (arith, p.1.0))),
    )

pub put_party-requires : goal.put_party-requires
put_party-requires c =
    let p = c.requires in (
      room-kept _ _ _ (c.load_inputs.auto.memory ∙ c.load_words.auto.memory) (layout-room _ _ c.layout-l.ensures _ p.0.room),
      (omega (arith, c.broadcasts-sent.ensures, c.broadcast_word-first.ensures, layout-inputs _ _ c.layout-l.ensures, layout-ands _ _ c.layout-l.ensures, layout-outputs _ _ c.layout-l.ensures), omega (arith, c.broadcasts-sent.ensures, p.1.1)),
    )

pub returns : goal.returns
returns c =
    let x = c.args in
    showing-given x.s.now x.z x.n x.memory.now c.requires.0 _ _ c.layout-l.ensures c.tape_bytes-len.ensures _
    c.load_words.ensures x.masked.now x.row.now _ _ x.p _ _ c.load_inputs.ensures c.broadcast_word-first.ensures c.broadcasts-sent.ensures
    c.put_party.ensures
