-- `small::count` meets its contract: by the number of gates.
-- Assumes nothing.
use mathlib.Core.Path.{ap}
use Prim.Native.Nat.{◌*◌, ◌+◌, ℕ}
use native.Mathlib.Omega.{arith}
use Rattle.small.proofs.Bounds.{head-low, one-low}
use Rattle.small.proofs.Writes.{count_none, count-one, count-two}
use Rattle.small.proofs.count.Goals as goal

pub returns-then-gates-eq0 : goal.returns-then-gates-eq0
returns-then-gates-eq0 c = let x = c.args in count_none x.inputs x.gates (omega arith)

pub overflow_mul-result : goal.overflow_mul-result
overflow_mul-result c = let x = c.args in let p = one-low x.inputs (omega arith) in let e = ap (λ (n : ℕ). (x.inputs + 1) * n) c.gates_on.ensures in omega arith

pub returns-then-gates-eq1 : goal.returns-then-gates-eq1
returns-then-gates-eq1 c = let x = c.args in count-one x.inputs x.gates _ (omega arith) c.gates_on.ensures

pub overflow_mul-result-2 : goal.overflow_mul-result-2
overflow_mul-result-2 c = let x = c.args in omega (arith, head-low x.inputs (omega arith), c.per_head.ensures)

pub returns : goal.returns
returns c = let x = c.args in count-two x.inputs x.gates _ (omega arith) c.per_head.ensures
