-- `planes::places::rows_at` meets its contract.
-- Assumes nothing.
use native.Mathlib.Omega.{arith}
use Rattle.planes.proofs.Fits.{spare-small}
use Rattle.planes.proofs.places.rows_at.Goals as goal

pub overflow_add-result : goal.overflow_add-result
overflow_add-result c = omega (arith, spare-small c.args.l)
