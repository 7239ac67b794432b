-- `correcting::loading::load` meets its contract.
-- Assumes nothing.
use native.Mathlib.Omega.{arith}
use mathlib.Core.Path.{ap, ◌∙◌}
use Rattle.planes.specs.Steps.{rows_at}
use Rattle.planes.specs.declared.Layout.{Layout}
use Rattle.gates.proofs.Steps.{room-kept}
use Rattle.walk.proofs.Turns.{layout-room, layout-wires}
use Rattle.packed.proofs.Runs.{layout-inputs}
use Rattle.correcting.proofs.Loads.{tapes-asked, words-done, inputs-masked, begun-done}
use Rattle.correcting.proofs.loading.load.Goals as goal

pub clear_corrections-requires : goal.clear_corrections-requires
clear_corrections-requires c =
    let p = c.requires.0 in
    (layout-room _ _ c.layout-l.ensures _ p.room, omega (arith, ap (λ (x : Layout). rows_at x) c.layout-l.ensures, p.rows))

pub load_tapes-requires : goal.load_tapes-requires
load_tapes-requires c =
    tapes-asked _ _ _ _ c.requires.0 _ _ c.layout-l.ensures c.tape_bytes-len.ensures _ c.clear_corrections.auto.memory

pub mask_inputs-requires : goal.mask_inputs-requires
mask_inputs-requires c =
    let p = c.requires in (
      room-kept _ _ _ (c.load_tapes.auto.memory ∙ c.clear_corrections.auto.memory) (layout-room _ _ c.layout-l.ensures _ p.0.room),
      (omega (arith, layout-inputs _ _ c.layout-l.ensures), (omega (arith, p.1.0), p.1.1)),
    )

pub load_masks-requires : goal.load_masks-requires
load_masks-requires c =
    let p = c.requires in (
      room-kept _ _ _ (c.load_tapes.auto.memory ∙ c.clear_corrections.auto.memory) (layout-room _ _ c.layout-l.ensures _ p.0.room),
      (omega (arith, layout-wires _ _ c.layout-l.ensures), (omega (arith, layout-inputs _ _ c.layout-l.ensures), omega (arith, p.1.1, c.mask_inputs.auto.masked))),
    )

pub returns : goal.returns
returns c =
    let x = c.args in
    let held = c.requires.0 in
    let w = words-done x.s.now x.z x.n x.memory.now held _ _ _ _ c.layout-l.ensures c.tape_bytes-len.ensures c.clear_corrections.ensures c.load_tapes.ensures in
    let v = inputs-masked x.s.now x.z x.n x.memory.now held _ x.witness.now _ _ c.layout-l.ensures w c.mask_inputs.ensures in record {
      masked_after = v;
      memory_after = begun-done x.s.now x.z x.n x.memory.now held _ _ _ _ _ c.layout-l.ensures w v c.load_masks.ensures;
    }
