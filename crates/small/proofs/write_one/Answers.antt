-- `small::write_one` meets its contract.
-- Assumes nothing.
use native.Mathlib.Omega.{arith}
use Rattle.small.proofs.Files.{gates-some}
use Rattle.small.proofs.Writes.{one_written}
use Rattle.small.proofs.write_one.Goals as goal

pub nonzero_rem-place : goal.nonzero_rem-place
nonzero_rem-place c = let x = c.args in omega (arith, gates-some x.inputs x.inputs (omega arith), c.gates_on-after.ensures)

pub nonzero_div-place : goal.nonzero_div-place
nonzero_div-place c = let x = c.args in omega (arith, gates-some x.inputs x.inputs (omega arith), c.gates_on-after.ensures)

pub returns : goal.returns
returns c = let x = c.args in
    one_written x.inputs x.place x.out.now _ _ _ _ c.gates_on-after.ensures c.gate_at-only.ensures c.write_front.ensures c.write_gate.ensures
