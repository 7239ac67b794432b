-- `planes::tapes::load_block` meets its contract. The invariant: b bytes of each row are loaded.
-- Assumes nothing.
use native.Mathlib.Omega.{arith}
use mathlib.Core.Path.{ap, ◌∙◌}
use Rattle.blocks.specs.Steps.{transposed_rows}
use Rattle.planes.proofs.Turning.{load-none}
use Rattle.planes.proofs.Within.{rows-column, rows-length}
use Rattle.planes.proofs.tapes.load_block.Goals as goal

pub read_rows-requires : goal.read_rows-requires
read_rows-requires c =
    let x = c.args in
    (omega arith, omega (arith, rows-length x.n x.len x.a x.memory.now _ (omega arith) c.row-rows.ensures))

pub loop-b-init : goal.loop-b-init
loop-b-init c = load-none _ _ _ _ _ _

pub loop-b-preserved : goal.loop-b-preserved
loop-b-preserved c =
    let x = c.args in
    let p = c.requires in
    rows-column x.n x.len x.a x.memory.now _ p.1.1.0 c.row-rows.ensures (λ j. (c.slice_known-1.given j).fits) x.k _ _ _ _ _ p.0 c.loop-b-test.true p.1.0
    (c.transpose_rows-w.ensures ∙ ap transposed_rows c.read_rows.ensures) c.loop-b.invariant c.store_column.ensures
