-- `small::gates_on` meets its contract.
-- Assumes nothing.
use mathlib.Core.Path.{refl}
use native.Mathlib.Omega.{arith}
use Rattle.small.specs.Steps.{gates_on}
use Rattle.small.proofs.Bounds.{square-low}
use Rattle.small.proofs.gates_on.Goals as goal

pub overflow_mul-result : goal.overflow_mul-result
overflow_mul-result c = omega (arith, square-low c.args.wires 3 (omega arith))

pub overflow_mul-result-2 : goal.overflow_mul-result-2
overflow_mul-result-2 c = omega (arith, square-low c.args.wires 3 (omega arith))

pub overflow_add-result : goal.overflow_add-result
overflow_add-result c = omega (arith, square-low c.args.wires 3 (omega arith))

pub returns : goal.returns
unfolding gates_on
returns c = refl
