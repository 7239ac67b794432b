-- `replaying::unused_showing` meets its contract.
-- Assumes nothing.
use native.Mathlib.Omega.{arith}
use Rattle.mpc.proofs.Opened.{ands-low}
use Rattle.replaying.proofs.Replayed.{unused-right}
use Rattle.replaying.proofs.unused_showing.Goals as goal

pub overflow_mul-z : goal.overflow_mul-z
overflow_mul-z c = omega (arith, ands-low _ _ _ _ _ c.requires.0, c.requires.0.legal.laid.few_gates)

pub overflow_add-z : goal.overflow_add-z
overflow_add-z c = omega (arith, ands-low _ _ _ _ _ c.requires.0, c.requires.0.legal.laid.few_inputs, c.requires.0.legal.laid.few_gates)

pub unused_rows-requires : goal.unused_rows-requires
unused_rows-requires c = (c.requires.0, c.requires.1.0)

pub overflow_add-z-2 : goal.overflow_add-z-2
overflow_add-z-2 c = omega (arith, ands-low _ _ _ _ _ c.requires.0, c.requires.0.legal.laid.few_outputs, c.requires.0.legal.laid.few_gates)

pub returns : goal.returns
returns c =
    let x = c.args in
    unused-right _ _ _ _ _ c.requires.0 _ _ x.tapes.now x.corrections.now x.masked.now x.row.now _ _ _ _ _ _ _ _
    c.oct-len.ensures c.row-own.ensures c.unused_rows.ensures c.unused_zero-2.ensures c.unused_zero-3.ensures c.unused_zero-4.ensures
    c.unused_zero-5.ensures c.unused_zero.ensures
