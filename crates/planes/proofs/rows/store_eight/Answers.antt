-- `planes::rows::store_eight` meets its contract. The invariant: b bytes of each row are stored.
-- Assumes nothing.
use native.Mathlib.Omega.{arith}
use mathlib.Core.Path.{ap, ◌∙◌}
use Rattle.blocks.specs.Steps.{transposed_rows}
use Rattle.planes.proofs.Turning.{store-column, store-none}
use Rattle.planes.proofs.rows.store_eight.Goals as goal

pub loop-b-init : goal.loop-b-init
loop-b-init c = store-none _ _ _ _ _ _

pub loop-b-preserved : goal.loop-b-preserved
loop-b-preserved c =
    store-column _ _ _ _ _ _ _ _ _ _ (omega arith) (omega arith) (c.transpose_rows-r.ensures ∙ ap transposed_rows c.read_columns.ensures) c.loop-b.invariant
    c.store_column.ensures
