-- `planes::places::corrections_at` meets its contract.
-- Assumes nothing.
use native.Mathlib.Omega.{arith}
use Rattle.planes.proofs.Fits.{spare-small}
use Rattle.planes.proofs.places.corrections_at.Goals as goal

pub overflow_add-result : goal.overflow_add-result
overflow_add-result c = omega (arith, c.planes_end.ensures, c.spare.ensures, spare-small c.args.l)
