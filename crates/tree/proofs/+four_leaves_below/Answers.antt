-- `tree::four_leaves_below` meets its contract: by the remaining height: the leaves below the first four of eight children, then those
-- below the other four.
-- Assumes nothing.
use Rattle.tree.proofs.Nodes.{falls-one, half_le, half_length, half_of, halves-room, second-of}
use Rattle.tree.proofs.FourLeaves.{four-room, four-half, not-zero, one_left, front_length, back-length, four-leaves-one, four-leaves-joined}
use native.Mathlib.Nat.{le_refl}
use native.Mathlib.Omega.{arith}
use mathlib.Core.Path.{refl, sym, ap, ◌∙◌}
use Prim.Native.Nat.{ℕ, ◌*◌, ◌^◌}
use Rattle.tree.proofs.+four_leaves_below.Goals as goal

pub four_children-requires : goal.four_children-requires
four_children-requires t c = let o = c in let r = (four-room c.args.k c.args.h (not-zero c.requires.0.0) c.requires.1.1) in (omega (arith, r.number), (o.requires.0.1, o.requires.1.0 ∙ ap (λ (x : ℕ). 64 * 2 ^ x) c.if-h-eq1.true))

pub slice_bounds-four_children-end : goal.slice_bounds-four_children-end
slice_bounds-four_children-end t c = refl

pub four_children-requires-else-h-eq1 : goal.four_children-requires-else-h-eq1
four_children-requires-else-h-eq1 t c = let r = (four-room c.args.k c.args.h (not-zero c.requires.0.0) c.requires.1.1) in (omega (arith, r.number), (c.requires.0.1, refl))

pub overflow_mul-k : goal.overflow_mul-k
overflow_mul-k t c = let r = (four-room c.args.k c.args.h (not-zero c.requires.0.0) c.requires.1.1) in record { fits = omega (arith, r.number) }

pub overflow_sub-h : goal.overflow_sub-h
overflow_sub-h t c = c.requires.0.0

pub slice_bounds-c-end : goal.slice_bounds-c-end
slice_bounds-c-end t c = omega (arith, c.four_children-else-h-eq1.auto.out)

pub slice_bounds-four_leaves_below-end : goal.slice_bounds-four_leaves_below-end
slice_bounds-four_leaves_below-end t c = sym (front_length c.four_children-else-h-eq1.new.out c.four_children-else-h-eq1.auto.out)

pub slice_bounds-four_leaves_below-end-else-h-eq1 : goal.slice_bounds-four_leaves_below-end-else-h-eq1
slice_bounds-four_leaves_below-end-else-h-eq1 t c = half_le _

pub slice_bounds-four_leaves_below-end-else-h-eq1-2 : goal.slice_bounds-four_leaves_below-end-else-h-eq1-2
slice_bounds-four_leaves_below-end-else-h-eq1-2 t c = sym (half_length c.args.out.now)

pub four_leaves_below-requires : goal.four_leaves_below-requires
four_leaves_below-requires t c =
    let b = c in
    let r = (four-room c.args.k c.args.h (not-zero c.requires.0.0) c.requires.1.1) in (
      falls-one b.decreases b.requires.0.0,
      (
        (one_left b.requires.0.0 c.if-h-eq1.false, front_length c.four_children-else-h-eq1.new.out c.four_children-else-h-eq1.auto.out),
        (half_of _ b.args.out.now (four-half _ r b.requires.1.0), r.left),
      ),
    )

pub overflow_mul-k-else-h-eq1 : goal.overflow_mul-k-else-h-eq1
overflow_mul-k-else-h-eq1 t c = let r = (four-room c.args.k c.args.h (not-zero c.requires.0.0) c.requires.1.1) in record { fits = omega (arith, r.number) }

pub overflow_add-k : goal.overflow_add-k
overflow_add-k t c = let r = (four-room c.args.k c.args.h (not-zero c.requires.0.0) c.requires.1.1) in record { fits = omega (arith, r.number) }

pub overflow_sub-h-else-h-eq1 : goal.overflow_sub-h-else-h-eq1
overflow_sub-h-else-h-eq1 t c = c.requires.0.0

pub slice_bounds-four_leaves_below-count-else-h-eq1 : goal.slice_bounds-four_leaves_below-count-else-h-eq1
slice_bounds-four_leaves_below-count-else-h-eq1 t c = halves-room c.args.out.now c.four_leaves_below.new.out c.four_leaves_below.auto.out

pub slice_bounds-four_leaves_below-start-else-h-eq1 : goal.slice_bounds-four_leaves_below-start-else-h-eq1
slice_bounds-four_leaves_below-start-else-h-eq1 t c = slice_bounds-four_leaves_below-count-else-h-eq1 t c

pub slice_bounds-four_leaves_below-end-else-h-eq1-4 : goal.slice_bounds-four_leaves_below-end-else-h-eq1-4
slice_bounds-four_leaves_below-end-else-h-eq1-4 t c = le_refl _

pub four_leaves_below-requires-else-h-eq1 : goal.four_leaves_below-requires-else-h-eq1
four_leaves_below-requires-else-h-eq1 t c =
    let b = c in
    let r = (four-room c.args.k c.args.h (not-zero c.requires.0.0) c.requires.1.1) in (
      falls-one b.decreases b.requires.0.0,
      (
        (one_left b.requires.0.0 c.if-h-eq1.false, back-length c.four_children-else-h-eq1.new.out c.four_children-else-h-eq1.auto.out),
        (second-of b.args.out.now c.four_leaves_below.new.out c.four_leaves_below.auto.out _ (four-half _ r b.requires.1.0), r.right),
      ),
    )

pub returns-then-h-eq1 : goal.returns-then-h-eq1
returns-then-h-eq1 t c = let x = c.args in four-leaves-one x.j x.h x.k x.values.now _ c.if-h-eq1.true c.four_children.ensures

pub returns-else-h-eq1 : goal.returns-else-h-eq1
returns-else-h-eq1 t c =
    let b = c in
    let x = b.args in
    four-leaves-joined x.j x.k x.h x.values.now _ x.out.now _ _ (not-zero b.requires.0.0) c.four_children-else-h-eq1.ensures
    c.four_leaves_below.auto.out c.four_leaves_below.ensures c.four_leaves_below-else-h-eq1.ensures
