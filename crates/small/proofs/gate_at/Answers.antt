-- `small::gate_at` meets its contract: by whether it reads two wires or one.
-- Assumes nothing.
use Prim.Native.Nat.{◌*◌}
use native.Mathlib.Omega.{arith}
use native.Mathlib.Nat.{div-lt_iff_lt-mul}
use Rattle.small.proofs.Bounds.{square-low, square-some}
use Rattle.small.proofs.Writes.{pair-gate, single-gate}
use Rattle.small.proofs.gate_at.Goals as goal

pub overflow_mul-square : goal.overflow_mul-square
overflow_mul-square c = omega (arith, square-low c.args.wires 3 (omega arith))

pub overflow_mul-square-2 : goal.overflow_mul-square-2
overflow_mul-square-2 c = omega (arith, square-low c.args.wires 3 (omega arith))

pub overflow_add-kind : goal.overflow_add-kind
overflow_add-kind c = let x = c.args in let k = (div-lt_iff_lt-mul {k = x.wires * x.wires} {x = x.r} {y = 2} (square-some x.wires (omega arith))).1 (omega arith) in omega arith

pub returns-then-r-square : goal.returns-then-r-square
returns-then-r-square c = let x = c.args in
    pair-gate x.inputs x.other x.wires x.r _ _ (omega arith) c.wire.ensures c.wire-then-r-square.ensures

pub returns : goal.returns
returns c = let x = c.args in single-gate x.inputs x.other x.wires x.r _ (omega arith) c.wire-2.ensures
