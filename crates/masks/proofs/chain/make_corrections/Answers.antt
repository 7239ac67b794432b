-- `masks::chain::make_corrections` meets its contract: the XOR of the rows, the input masks, zeros for the corrections, and the walk.
-- Assumes nothing.
use mathlib.Core.Path.{◌∙◌}
use Rattle.masks.proofs.Making.{ready, all_made}
use Rattle.masks.proofs.chain.make_corrections.Goals as goal

pub walk-requires : goal.walk-requires
walk-requires c =
    let summed = c.add_rows.auto.memory in
    let loaded = c.load_inputs.auto.memory ∙ summed in
    ready _ _ _ _ _ _ c.requires _ c.head-head.ensures _ _ _ (c.clear_part.auto.memory ∙ loaded) loaded c.oct-size.ensures c.clear_part.ensures

pub returns : goal.returns
returns c =
    let x = c.args in
    all_made x.s.now x.z x.n x.a x.at x.memory.now c.requires _ c.head-head.ensures _ c.oct-len.ensures _ _ c.add_rows.ensures
    c.load_inputs.ensures _ _ _ c.oct-size.ensures c.clear_part.ensures c.walk.ensures
