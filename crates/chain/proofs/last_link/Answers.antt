-- `chain::last_link` meets its contract.
-- Assumes nothing.
use native.Mathlib.Omega.{arith}
use borrow.Author.Tests.{lt-ltb, le-ltb, eq-eqb, ne_eqb}
use Rattle.circuit.specs.Chain.{walk_from}
use Rattle.chain.proofs.last_link.Goals as goal

pub returns-then-gates-last : goal.returns-then-gates-last
unfolding walk_from
returns-then-gates-last c = let x = c.args in rw (c.fault.ensures, lt-ltb x.gates x.last c.if-gates-last.true)

pub returns-then-last-eq0 : goal.returns-then-last-eq0
unfolding walk_from
returns-then-last-eq0 c = let x = c.args in rw (le-ltb x.gates x.last (omega arith), eq-eqb x.last 0 c.if-last-eq0.true)

pub returns : goal.returns
unfolding walk_from
returns c = let x = c.args in rw (c.fault-2.ensures, le-ltb x.gates x.last (omega arith), ne_eqb x.last 0 c.if-last-eq0.false)
