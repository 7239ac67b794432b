-- `small::write_two` meets its contract.
-- Assumes nothing.
use native.Mathlib.Omega.{arith}
use native.Mathlib.Nat.{div-lt_iff_lt-mul}
use Rattle.small.proofs.Bounds.{head-some}
use Rattle.small.proofs.Files.{pairs-some}
use Rattle.small.proofs.Writes.{two-written}
use Rattle.small.specs.Steps.{count_of}
use Rattle.small.proofs.write_two.Goals as goal

pub nonzero_div-head : goal.nonzero_div-head
nonzero_div-head c = let x = c.args in omega (arith, head-some x.inputs (omega arith) (omega arith), c.per_head-with_head.ensures)

pub overflow_add-head : goal.overflow_add-head
unfolding count_of
overflow_add-head c = let x = c.args in
    let some = head-some x.inputs (omega arith) (omega arith) in
    let k = (div-lt_iff_lt-mul {k = c.per_head-with_head.result} {x = x.place} {y = 2} (omega arith)).1 (omega arith) in
    omega arith

pub nonzero_rem-r : goal.nonzero_rem-r
nonzero_rem-r c = let x = c.args in omega (arith, head-some x.inputs (omega arith) (omega arith), c.per_head-with_head.ensures)

pub nonzero_div-r : goal.nonzero_div-r
nonzero_div-r c = let x = c.args in omega (arith, pairs-some x.inputs (omega arith), c.pairs-with_output.ensures)

pub nonzero_rem-r-2 : goal.nonzero_rem-r-2
nonzero_rem-r-2 c = let x = c.args in omega (arith, pairs-some x.inputs (omega arith), c.pairs-with_output.ensures)

pub returns : goal.returns
returns c = let x = c.args in
    two-written x.inputs x.place x.out.now _ _ _ _ c.per_head-with_head.ensures c.pairs-with_output.ensures c.write_front.ensures c.write_pair.ensures
