-- `planes::tapes::rows_in` meets its contract.
-- Assumes nothing.
use native.Mathlib.Omega.{arith}
use Rattle.std.proofs.lemmas.Bool.Decides.{nat_tests}
use Rattle.planes.specs.Steps.{rows_in}
use Rattle.planes.proofs.tapes.rows_in.Goals as goal

pub returns : goal.returns
unfolding rows_in
returns c = grind (arith, nat_tests)
