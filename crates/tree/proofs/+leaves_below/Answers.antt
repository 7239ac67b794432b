-- `tree::leaves_below` meets its contract: by the remaining height: the leaves below the left child, then those below the
-- right one, or those below the grandchildren.
-- Assumes nothing.
use Rattle.tree.proofs.Nodes.{room, leaves-joined, leaves_none, falls-one, twice-fits, twice-one-fits, left-length, right-length, half_le, half_length, half_is, halves-room, halves-second}
use Rattle.tree.proofs.FourLeaves.{grand-room, leaves-from-four}
use native.Mathlib.Nat.{le_refl}
use native.Mathlib.Omega.{arith}
use mathlib.Core.Path.{refl, sym, ap, ◌∙◌}
use Prim.Native.Nat.{ℕ, ◌*◌, ◌^◌}
use Rattle.tree.proofs.+leaves_below.Goals as goal

pub copy-requires : goal.copy-requires
copy-requires t c = c.requires.1.0 ∙ (ap (λ (x : ℕ). 16 * 2 ^ x) c.if-h-eq0.true ∙ sym c.requires.0)

pub slice_bounds-children-end : goal.slice_bounds-children-end
slice_bounds-children-end t c = refl

pub children-requires : goal.children-requires
children-requires t c = refl

pub overflow_mul-k : goal.overflow_mul-k
overflow_mul-k t c = twice-fits (room c.args.k c.args.h c.if-h-eq0.false c.requires.1.1)

pub overflow_sub-h : goal.overflow_sub-h
overflow_sub-h t c = let r = room c.args.k c.args.h c.if-h-eq0.false c.requires.1.1 in r.some

pub slice_bounds-c-end : goal.slice_bounds-c-end
slice_bounds-c-end t c = omega (arith, c.children.auto.out)

pub slice_bounds-leaves_below-end : goal.slice_bounds-leaves_below-end
slice_bounds-leaves_below-end t c = sym (left-length c.children.new.out c.children.auto.out)

pub slice_bounds-leaves_below-end-then-h-lt3 : goal.slice_bounds-leaves_below-end-then-h-lt3
slice_bounds-leaves_below-end-then-h-lt3 t c = half_le _

pub slice_bounds-leaves_below-end-then-h-lt3-2 : goal.slice_bounds-leaves_below-end-then-h-lt3-2
slice_bounds-leaves_below-end-then-h-lt3-2 t c = sym (half_length c.args.out.now)

pub leaves_below-requires : goal.leaves_below-requires
leaves_below-requires t c =
    let b = c in
    let r = room c.args.k c.args.h c.if-h-eq0.false c.requires.1.1 in (
      falls-one b.decreases r.some,
      (
        left-length c.children.new.out c.children.auto.out,
        (half_is b.args.out.now r b.requires.1.0, r.left),
      ),
    )

pub overflow_mul-k-then-h-lt3 : goal.overflow_mul-k-then-h-lt3
overflow_mul-k-then-h-lt3 t c = twice-fits (room c.args.k c.args.h c.if-h-eq0.false c.requires.1.1)

pub overflow_add-k : goal.overflow_add-k
overflow_add-k t c = twice-one-fits (room c.args.k c.args.h c.if-h-eq0.false c.requires.1.1)

pub overflow_sub-h-then-h-lt3 : goal.overflow_sub-h-then-h-lt3
overflow_sub-h-then-h-lt3 t c = let r = room c.args.k c.args.h c.if-h-eq0.false c.requires.1.1 in r.some

pub slice_bounds-leaves_below-count-then-h-lt3 : goal.slice_bounds-leaves_below-count-then-h-lt3
slice_bounds-leaves_below-count-then-h-lt3 t c = halves-room c.args.out.now c.leaves_below.new.out c.leaves_below.auto.out

pub slice_bounds-leaves_below-start-then-h-lt3 : goal.slice_bounds-leaves_below-start-then-h-lt3
slice_bounds-leaves_below-start-then-h-lt3 t c = slice_bounds-leaves_below-count-then-h-lt3 t c

pub slice_bounds-leaves_below-end-then-h-lt3-4 : goal.slice_bounds-leaves_below-end-then-h-lt3-4
slice_bounds-leaves_below-end-then-h-lt3-4 t c = le_refl _

pub leaves_below-requires-then-h-lt3 : goal.leaves_below-requires-then-h-lt3
leaves_below-requires-then-h-lt3 t c =
    let b = c in
    let r = room c.args.k c.args.h c.if-h-eq0.false c.requires.1.1 in (
      falls-one b.decreases r.some,
      (
        right-length c.children.new.out c.children.auto.out,
        (halves-second b.args.out.now c.leaves_below.new.out c.leaves_below.auto.out r b.requires.1.0, r.right),
      ),
    )

pub slice_bounds-grandchildren-end : goal.slice_bounds-grandchildren-end
slice_bounds-grandchildren-end t c = refl

pub grandchildren-requires : goal.grandchildren-requires
grandchildren-requires t c = let r = (grand-room c.args.k c.args.h c.if-h-lt3.false c.requires.1.1) in (omega (arith, r.number), refl)

pub overflow_mul-k-else-h-lt3 : goal.overflow_mul-k-else-h-lt3
overflow_mul-k-else-h-lt3 t c = let r = (grand-room c.args.k c.args.h c.if-h-lt3.false c.requires.1.1) in record { fits = omega (arith, r.number) }

pub overflow_sub-h-else-h-lt3 : goal.overflow_sub-h-else-h-lt3
overflow_sub-h-else-h-lt3 t c = omega (arith, c.if-h-lt3.false)

pub slice_bounds-four_leaves_below-end : goal.slice_bounds-four_leaves_below-end
slice_bounds-four_leaves_below-end t c = sym c.grandchildren.auto.out

pub four_leaves_below-requires : goal.four_leaves_below-requires
four_leaves_below-requires t c =
    let b = c in
    let r = (grand-room c.args.k c.args.h c.if-h-lt3.false c.requires.1.1) in
    ((r.more, c.grandchildren.auto.out), (b.requires.1.0 ∙ r.places, r.fits))

pub returns-then-h-eq0 : goal.returns-then-h-eq0
returns-then-h-eq0 t c = c.copy.ensures ∙ leaves_none c.args.j c.args.k c.args.h c.args.value.now c.if-h-eq0.true

pub returns-then-h-lt3 : goal.returns-then-h-lt3
returns-then-h-lt3 t c =
    let x = c.args in
    leaves-joined x.j x.k x.h x.value.now _ x.out.now _ _ c.if-h-eq0.false c.requires.1.0
    c.children.ensures c.children.auto.out c.leaves_below.auto.out
    c.leaves_below.ensures c.leaves_below-then-h-lt3.ensures

pub returns-else-h-lt3 : goal.returns-else-h-lt3
returns-else-h-lt3 t c =
    let b = c in
    let x = b.args in
    leaves-from-four x.j x.k x.h x.value.now _ _ (omega (arith, c.if-h-lt3.false)) c.grandchildren.ensures c.four_leaves_below.ensures
