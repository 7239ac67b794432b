-- `legality::within_limits` meets its contract.
-- Assumes nothing.
use Rattle.std.proofs.Common.{arith}
use Rattle.std.proofs.lemmas.Bool.Decides.{nat_tests}
use Rattle.circuit.specs.FieldSteps.{limits}
use Rattle.legality.proofs.within_limits.Goals as goal

pub returns-then-contains-2 : goal.returns-then-contains-2
unfolding limits
returns-then-contains-2 c = grind (arith, nat_tests)

pub returns-else-contains-2 : goal.returns-else-contains-2
unfolding limits
returns-else-contains-2 c = grind (arith, nat_tests)
