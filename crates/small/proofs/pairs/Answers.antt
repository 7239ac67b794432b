-- `small::pairs` meets its contract.
-- Assumes nothing.
use mathlib.Core.Path.{◌≡◌, ap₂}
use Prim.Native.Nat.{◌*◌}
use native.Mathlib.Omega.{arith}
use Rattle.small.proofs.Bounds.{pairs-low}
use Rattle.small.specs.Steps.{pairs}
use Rattle.small.proofs.pairs.Goals as goal

pub overflow_mul-result : goal.overflow_mul-result
unfolding pairs
overflow_mul-result c =
    let x = c.args in
    let e : c.gates_on.result * c.gates_on-2.result ≡ pairs x.inputs = ap₂ ◌*◌ c.gates_on.ensures c.gates_on-2.ensures in
    omega (arith, pairs-low x.inputs (omega arith))

pub returns : goal.returns
unfolding pairs
returns c = ap₂ ◌*◌ c.gates_on.ensures c.gates_on-2.ensures
