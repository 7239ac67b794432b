-- `growing::opened_before` meets its contract: r opened nodes are below k.
-- Assumes nothing.
use Rattle.cover.specs.Cover.{those}
use Rattle.cover.specs.Steps.{opened_by}
use Rattle.growing.proofs.Marking.{byte_le, count_none, count-more}
use native.Mathlib.Omega.{arith}
use mathlib.Core.Path.{◌≡◌, ap, ◌∙◌}
use Prim.Native.Nat.{ℕ}
use lib.ListN.{length}
use Rattle.growing.proofs.opened_before.Goals as goal

pub loop-k-init : goal.loop-k-init
loop-k-init c = (omega arith, count_none _)

pub overflow_add-r : goal.overflow_add-r
overflow_add-r c = omega (arith, byte_le c.is_opened.result)

pub loop-k-preserved : goal.loop-k-preserved
loop-k-preserved c =
    let l = c.loop-k in
    (omega (arith, byte_le c.is_opened.result), count-more _ l.k l.r _ l.invariant.1 c.is_opened.ensures)

pub returns : goal.returns
returns c =
    let l = c.loop-k in
    let e : l.k ≡ c.args.n = omega arith in
    l.invariant.1 ∙ ap (λ (k : ℕ). length (those k (opened_by c.args.marks.now))) e
