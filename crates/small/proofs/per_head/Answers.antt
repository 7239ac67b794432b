-- `small::per_head` meets its contract.
-- Assumes nothing.
use mathlib.Core.Path.{ap}
use Prim.Native.Nat.{◌*◌, ◌+◌, ℕ}
use native.Mathlib.Omega.{arith}
use Rattle.small.proofs.Bounds.{head-low}
use Rattle.small.specs.Steps.{per_head}
use Rattle.small.proofs.per_head.Goals as goal

pub overflow_mul-result : goal.overflow_mul-result
unfolding per_head
overflow_mul-result c = let x = c.args in let p = head-low x.inputs (omega arith) in let e = ap (λ (n : ℕ). (x.inputs + 2) * n) c.pairs.ensures in omega arith

pub returns : goal.returns
unfolding per_head
returns c = ap (λ (n : ℕ). (c.args.inputs + 2) * n) c.pairs.ensures
