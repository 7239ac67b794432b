-- `proof::nodes::row_count` meets its contract.
-- Assumes nothing.
use native.Mathlib.Omega.{arith}
use Rattle.proof.proofs.Leaves.{masters-low, rows_made}
use Rattle.proof.proofs.nodes.row_count.Goals as goal

pub leaves-requires : goal.leaves-requires
leaves-requires c = omega (arith, c.height.ensures, masters-low c.args.m c.requires)

pub overflow_mul-result : goal.overflow_mul-result
overflow_mul-result c = omega (arith, rows_made c.args.m c.requires _ _ c.height.ensures c.leaves.ensures)

pub returns : goal.returns
returns c = rows_made c.args.m c.requires _ _ c.height.ensures c.leaves.ensures
