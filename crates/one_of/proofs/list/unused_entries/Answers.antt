-- `one_of::list::unused_entries` meets its contract. The loop's invariant: the unused bits of the first e entries are zero.
-- Assumes nothing.
use mathlib.Core.Path.{◌≡◌}
use native.Mathlib.Omega.{arith}
use Rattle.one_of.proofs.Coded.{unused-none, unused-turn, unused-hit}
use Rattle.one_of.proofs.list.unused_entries.Goals as goal

pub loop-e-init : goal.loop-e-init
loop-e-init c = unused-none _ _

pub loop-e-preserved : goal.loop-e-preserved
loop-e-preserved c =
    unused-turn _ _ _ _ _ _ c.oct-len.ensures c.row-entry.ensures c.unused_zero.ensures c.if-not-unused_zero.false c.loop-e.invariant

pub returns-then-not-unused_zero : goal.returns-then-not-unused_zero
returns-then-not-unused_zero c =
    unused-hit _ _ _ _ _ _ _ c.oct-len.ensures c.row-entry.ensures c.unused_zero.ensures c.if-not-unused_zero.true (omega arith)

pub returns : goal.returns
returns c =
    let e : c.loop-e.e ≡ c.args.n = omega arith in
    rw (← e) c.loop-e.invariant
