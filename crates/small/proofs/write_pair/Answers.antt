-- `small::write_pair` meets its contract: by the head.
-- Assumes nothing.
use Prim.Native.Nat.{◌+◌}
use native.Mathlib.Omega.{arith}
use Rattle.small.proofs.Files.{gates-some}
use Rattle.small.proofs.Writes.{pair-down, pair-up}
use Rattle.small.proofs.write_pair.Goals as goal

pub nonzero_div-r : goal.nonzero_div-r
nonzero_div-r c = let x = c.args in omega (arith, gates-some x.inputs (x.inputs + 1) (omega arith), c.gates_on-after.ensures)

pub nonzero_rem-r : goal.nonzero_rem-r
nonzero_rem-r c = let x = c.args in omega (arith, gates-some x.inputs (x.inputs + 1) (omega arith), c.gates_on-after.ensures)

pub nonzero_div-r-else-head-eq1 : goal.nonzero_div-r-else-head-eq1
nonzero_div-r-else-head-eq1 c = let x = c.args in omega (arith, gates-some x.inputs x.inputs (omega arith), c.gates_on-after-else-head-eq1.ensures)

pub nonzero_rem-r-else-head-eq1 : goal.nonzero_rem-r-else-head-eq1
nonzero_rem-r-else-head-eq1 c = let x = c.args in omega (arith, gates-some x.inputs x.inputs (omega arith), c.gates_on-after-else-head-eq1.ensures)

pub returns-then-head-eq1 : goal.returns-then-head-eq1
returns-then-head-eq1 c = let x = c.args in
    pair-up x.inputs x.head x.r _ _ _ x.out.now _ _ (omega arith) c.gates_on-after.ensures c.gate_at-first.ensures c.gate_at-second.ensures c.write_gate.ensures c.write_gate-then-head-eq1.ensures

pub returns-else-head-eq1 : goal.returns-else-head-eq1
returns-else-head-eq1 c = let x = c.args in
    pair-down x.inputs x.head x.r _ _ _ x.out.now _ _ (λ e. omega arith) c.gates_on-after-else-head-eq1.ensures c.gate_at-first-else-head-eq1.ensures c.gate_at-second-else-head-eq1.ensures c.write_gate-else-head-eq1.ensures c.write_gate-else-head-eq1-2.ensures
