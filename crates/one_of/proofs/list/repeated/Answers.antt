-- `one_of::list::repeated` meets its contract. The loop's invariant: none of the first i entries is entry e.
-- Assumes nothing.
use mathlib.Core.Path.{◌≡◌, ap, ◌∙◌}
use native.Mathlib.Omega.{arith}
use Rattle.one_of.specs.OneOf.{among}
use Rattle.one_of.proofs.Coded.{among_none, among-turn, among-hit}
use Rattle.one_of.proofs.list.repeated.Goals as goal

pub loop-i-init : goal.loop-i-init
loop-i-init c = among_none _ _ _

pub loop-i-preserved : goal.loop-i-preserved
loop-i-preserved c =
    among-turn _ _ _ _ _ _ _ _ c.oct-len.ensures c.row-other.ensures c.row-entry.ensures c.same.ensures c.if-same.false c.loop-i.invariant

pub returns-then-same : goal.returns-then-same
returns-then-same c =
    among-hit _ _ _ _ _ _ _ _ _ c.oct-len.ensures c.row-other.ensures c.row-entry.ensures c.same.ensures c.if-same.true (omega arith)

pub returns : goal.returns
returns c =
    let e : c.loop-i.i ≡ c.args.e = omega arith in
    c.loop-i.invariant ∙ ap (among c.args.outputs c.args.list.now c.args.e) e
