-- `shown_parts::cuts::shown_bits` meets its contract.
-- Assumes nothing.
use native.Mathlib.Omega.{arith}
use Rattle.mpc.proofs.Opened.{ands-low}
use Rattle.shown_parts.proofs.Shown.{chained, shown-below, shown-all}
use Rattle.shown_parts.proofs.cuts.shown_bits.Goals as goal

pub ands_passed-requires : goal.ands_passed-requires
ands_passed-requires c = (chained _ _ _ _ _ c.requires.0 _ c.requires.1.0, c.requires.1.1)

pub returns-then-cut-z : goal.returns-then-cut-z
returns-then-cut-z c = shown-below _ _ _ _ _ c.requires.0 _ _ _ c.requires.1.0 c.if-cut-z.true c.ands_passed.ensures

pub overflow_add-result : goal.overflow_add-result
overflow_add-result c = omega (arith, ands-low _ _ _ _ _ c.requires.0, c.requires.0.legal.laid.few_gates, c.requires.0.legal.laid.few_outputs)

pub returns : goal.returns
returns c = shown-all _ _ _ _ _ c.requires.0 _ c.if-cut-z.false
