-- `growing::regrow` meets its contract: the children of every node below k stand in their rows, from the first n values.
-- Assumes nothing.
use Rattle.cover.specs.Cover.{those}
use Rattle.cover.specs.Steps.{opened_by, follow_of}
use Rattle.growing.proofs.Growing.{grown-one, grown-more, grown-all, few-leaves}
use Rattle.growing.proofs.Following.{length-follow, pair-hashed, shown-at, shown-next}
use Rattle.growing.proofs.Spreading.{grown-spreads}
use Rattle.tree.specs.Tree.{children}
use native.Mathlib.Omega.{arith}
use native.Mathlib.Nat.{pow-succ'}
use mathlib.Core.Path.{◌≡◌, refl, sym, ap, ◌∙◌}
use Prim.Native.Nat.{ℕ, ◌+◌, ◌*◌}
use lib.ListN.{length, replicate, length-replicate}
use lib.Pow.{pow_pos}
use Rattle.growing.proofs.regrow.Goals as goal

pub slice_bounds-put_root-end : goal.slice_bounds-put_root-end
slice_bounds-put_root-end c = refl

pub put_root-requires : goal.put_root-requires
put_root-requires c = (refl, omega (arith, c.requires.1.1, pow-succ' 2 c.args.h, pow_pos c.args.h))

pub leaves-end-requires : goal.leaves-end-requires
leaves-end-requires c = c.requires.0.0

pub opened_before-n-requires : goal.opened_before-n-requires
opened_before-n-requires c = omega (arith, c.requires.0.1, pow-succ' 2 c.args.h, pow_pos c.args.h)

pub loop-k-init : goal.loop-k-init
loop-k-init c =
    let x = c.args in
    let q = c.requires in (
      (omega arith, omega (arith, c.leaves-end.ensures, pow_pos x.h)),
      c.leaves-end.ensures,
      c.put_root.auto.nodes ∙ q.1.1 ∙ omega (arith, pow-succ' 2 x.h),
      c.opened_before-n.ensures,
      grown-one (follow_of x.j x.marks.now x.values.now) (replicate 16 0) (length-follow x.marks.now x.values.now c.requires.1.0 x.j) (length-replicate {A = ℕ} 16 0) x.h x.nodes.now _ c.put_root.ensures,
    )

pub four_shown-requires : goal.four_shown-requires
four_shown-requires c =
    let o = c in
    let l = c.loop-k in
    let f = c.if-end-k-ge4.true in
    omega (arith, l.invariant.1, f, o.requires.0.1, pow-succ' 2 o.args.h)

pub four_spread-requires : goal.four_spread-requires
four_spread-requires c =
    let o = c in
    let l = c.loop-k in
    let f = c.if-end-k-ge4.true in
    (c.if-k-ge4.true, (omega (arith, l.invariant.1, f, few-leaves o.args.h o.requires.0.0), omega (arith, l.invariant.1, l.invariant.2, f)))

pub overflow_add-k : goal.overflow_add-k
overflow_add-k c = omega (arith, few-leaves c.args.h c.requires.0.0)

pub loop-k-preserved-then-four_shown : goal.loop-k-preserved-then-four_shown
loop-k-preserved-then-four_shown c =
    let o = c in
    let x = o.args in
    let l = c.loop-k in
    let f = c.if-end-k-ge4.true in
    let t = sym c.four_shown.ensures ∙ c.if-four_shown.true in (
      (omega arith, omega (arith, f)),
      l.invariant.1,
      c.four_spread.auto.nodes ∙ l.invariant.2,
      shown-next x.j x.values.now x.values.now 4 l.k l.n x.marks.now t l.invariant.3,
      rw c.four_spread.ensures (grown-spreads (follow_of x.j x.marks.now x.values.now) (replicate 16 0) (length-follow x.marks.now x.values.now o.requires.1.0 x.j) (length-replicate {A = ℕ} 16 0) x.h x.j 4 l.k l.nodes l.invariant.0.0 (omega (arith, l.invariant.1, f)) l.invariant.2 (λ i v a b. pair-hashed x.j i x.marks.now x.values.now v (children x.j i v) (shown-at 4 l.k x.marks.now t i a b) refl) l.invariant.4),
    )

pub follow-n-requires : goal.follow-n-requires
follow-n-requires c =
    let x = c.args in
    let q = c.requires in
    let i = c.loop-k.invariant in (
      (i.0.0, (omega (arith, i.1, few-leaves x.h q.0.0), omega (arith, i.1, q.0.1, pow-succ' 2 x.h))),
      (q.1.0, (i.3, omega (arith, i.1, i.2))),
    )

pub overflow_add-k-else-k-ge4 : goal.overflow_add-k-else-k-ge4
overflow_add-k-else-k-ge4 c = omega (arith, few-leaves c.args.h c.requires.0.0)

pub loop-k-preserved : goal.loop-k-preserved
loop-k-preserved c =
    let o = c in
    let x = o.args in
    let l = c.loop-k in
    let two : 2 * l.k + 2 ≡ 2 * (l.k + 1) = omega arith in (
      (omega arith, omega arith),
      l.invariant.1,
      c.follow-n.auto.nodes ∙ l.invariant.2,
      c.follow-n.ensures.0 ∙ ap (λ (m : ℕ). length (those m (opened_by x.marks.now))) two,
      grown-more (follow_of x.j x.marks.now x.values.now) (replicate 16 0) (length-follow x.marks.now x.values.now o.requires.1.0 x.j) (length-replicate {A = ℕ} 16 0) x.h l.k l.nodes _ l.invariant.0.0 (omega (arith, l.invariant.1)) l.invariant.2 l.invariant.4 c.follow-n.ensures.1,
    )

pub returns : goal.returns
returns c =
    let x = c.args in
    let l = c.loop-k in
    grown-all (follow_of x.j x.marks.now x.values.now) (replicate 16 0) (length-follow x.marks.now x.values.now c.requires.1.0 x.j) (length-replicate {A = ℕ} 16 0) x.h l.k l.nodes (omega (arith, l.invariant.1)) (omega (arith, l.invariant.1)) l.invariant.2 l.invariant.4
