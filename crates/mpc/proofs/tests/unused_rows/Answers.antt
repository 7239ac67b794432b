-- `mpc::tests::unused_rows` meets its contract. The loop's invariant: `good` tells of the first i rows.
-- Assumes nothing.
use native.Mathlib.Omega.{arith}
use Rattle.mpc.proofs.Opened.{ands-low}
use Rattle.mpc.proofs.Tested.{unused-none, unused-turn}
use Rattle.mpc.proofs.tests.unused_rows.Goals as goal

pub overflow_mul-ands : goal.overflow_mul-ands
overflow_mul-ands c = omega (arith, ands-low _ _ _ _ _ c.requires.0)

pub overflow_add-inputs : goal.overflow_add-inputs
overflow_add-inputs c = omega (arith, ands-low _ _ _ _ _ c.requires.0)

pub loop-i-init : goal.loop-i-init
loop-i-init c = unused-none _ _ _ _ _ c.args.n c.args.tapes.now c.requires.0

pub used_bits-requires : goal.used_bits-requires
used_bits-requires c = (omega arith, (omega (arith, ands-low _ _ _ _ _ c.requires.0), omega arith))

pub loop-i-preserved : goal.loop-i-preserved
loop-i-preserved c =
    let l = c.loop-i in
    unused-turn _ _ _ _ _ c.args.n c.args.tapes.now c.requires.0 l.i _ _ _ _ _ l.invariant c.oct-len.ensures
    c.row-row.ensures
    c.used_bits.ensures
    c.unused_zero-good.ensures
