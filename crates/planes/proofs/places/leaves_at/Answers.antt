-- `planes::places::leaves_at` meets its contract: 64 rows of up to 4194304 bits are few bytes.
-- Assumes nothing.
use native.Mathlib.Nat.{mul-le-mul_right}
use native.Mathlib.Omega.{arith}
use Rattle.planes.proofs.Fits.{spare-small}
use Rattle.planes.proofs.places.leaves_at.Goals as goal

pub overflow_add-result : goal.overflow_add-result
overflow_add-result c =
    omega (arith, c.oct.ensures, c.rows_at.ensures, spare-small c.args.l, mul-le-mul_right c.oct.result c.requires.1.1)
