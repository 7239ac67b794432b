-- `growing::grow` meets its contract: the children of every node below k stand in their rows.
-- Assumes nothing.
use Rattle.cover.specs.Masters.{child_of}
use Rattle.cover.specs.Steps.{put_row}
use Rattle.growing.proofs.Growing.{grown-one, grown-more, grown-all, children-pair, few-leaves}
use Rattle.growing.proofs.Spreading.{grown-spreads}
use Rattle.cover.proofs.Rebuilding.{length-child}
use native.Mathlib.Omega.{arith}
use native.Mathlib.Nat.{pow-succ'}
use mathlib.Core.Path.{ap, ◌∙◌}
use lib.Pow.{pow_pos}
use Rattle.growing.proofs.grow.Goals as goal

pub put_root-requires : goal.put_root-requires
put_root-requires c = let q = c.requires in (q.1.0, omega (arith, q.1.1, pow-succ' 2 c.args.h, pow_pos c.args.h))

pub leaves-end-requires : goal.leaves-end-requires
leaves-end-requires c = c.requires.0

pub loop-k-init : goal.loop-k-init
loop-k-init c =
    let x = c.args in
    let q = c.requires in (
      (omega arith, omega (arith, c.leaves-end.ensures, pow_pos x.h)),
      c.leaves-end.ensures,
      c.put_root.auto.nodes ∙ q.1.1 ∙ omega (arith, pow-succ' 2 x.h),
      grown-one (child_of x.j) x.root.now (length-child x.j) q.1.0 x.h x.nodes.now _ c.put_root.ensures,
    )

pub four_spread-requires : goal.four_spread-requires
four_spread-requires c =
    let i = c.loop-k.invariant in
    let o = c in
    let f = c.if-end-k-ge4.true in
    (c.if-k-ge4.true, (omega (arith, i.1, f, few-leaves o.args.h o.requires.0), omega (arith, i.1, i.2, f)))

pub overflow_add-k : goal.overflow_add-k
overflow_add-k c = omega (arith, few-leaves c.args.h c.requires.0)

pub loop-k-preserved-then-end-k-ge4 : goal.loop-k-preserved-then-end-k-ge4
loop-k-preserved-then-end-k-ge4 c =
    let o = c in
    let x = o.args in
    let l = c.loop-k in
    let f = c.if-end-k-ge4.true in (
      (omega arith, omega (arith, f)),
      l.invariant.1,
      c.four_spread.auto.nodes ∙ l.invariant.2,
      rw c.four_spread.ensures (grown-spreads (child_of x.j) x.root.now (length-child x.j) o.requires.1.0 x.h x.j 4 l.k l.nodes l.invariant.0.0 (omega (arith, l.invariant.1, f)) l.invariant.2 (λ i v a b. children-pair x.j i v) l.invariant.3),
    )

pub spread-requires : goal.spread-requires
spread-requires c =
    let i = c.loop-k.invariant in
    let o = c in
    (i.0.0, (omega (arith, i.1, few-leaves o.args.h o.requires.0), omega (arith, i.1, i.2)))

pub overflow_add-k-else-k-ge4 : goal.overflow_add-k-else-k-ge4
overflow_add-k-else-k-ge4 c = omega (arith, few-leaves c.args.h c.requires.0)

pub loop-k-preserved : goal.loop-k-preserved
loop-k-preserved c =
    let o = c in
    let x = o.args in
    let l = c.loop-k in (
      (omega arith, omega arith),
      l.invariant.1,
      c.spread.auto.nodes ∙ l.invariant.2,
      grown-more (child_of x.j) x.root.now (length-child x.j) o.requires.1.0 x.h l.k l.nodes _ l.invariant.0.0 (omega (arith, l.invariant.1)) l.invariant.2 l.invariant.3
          (c.spread.ensures ∙ ap (put_row 32 l.nodes l.k) (children-pair x.j l.k _)),
    )

pub returns : goal.returns
returns c =
    let x = c.args in
    let l = c.loop-k in
    grown-all (child_of x.j) x.root.now (length-child x.j) c.requires.1.0 x.h l.k l.nodes (omega (arith, l.invariant.1)) (omega (arith, l.invariant.1)) l.invariant.2 l.invariant.3
