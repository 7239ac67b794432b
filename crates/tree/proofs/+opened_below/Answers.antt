-- `tree::opened_below` meets its contract: by the remaining height: the sibling's leaves, beside those of the child on the path.
-- Assumes nothing.
use Rattle.tree.proofs.Nodes.{room, opened-none, opened-joined-left, opened-joined-right, falls-one, twice-fits, twice-one-fits, right-leaf, first_fits, first-length, rest-is, half_le, half_length, half_is, halves-room, halves-second}
use native.Mathlib.Nat.{le_refl}
use mathlib.Core.Path.{sym, ◌∙◌}
use lib.ListN.{length}
use Rattle.tree.proofs.+opened_below.Goals as goal

pub overflow_sub-h : goal.overflow_sub-h
overflow_sub-h t c = let r = room c.args.k c.args.h c.if-h-eq0.false c.requires.1.1.0 in r.some

pub leaves_of-half-requires : goal.leaves_of-half-requires
leaves_of-half-requires t c = let r = room c.args.k c.args.h c.if-h-eq0.false c.requires.1.1.0 in r.short

pub overflow_mul-k : goal.overflow_mul-k
overflow_mul-k t c = twice-fits (room c.args.k c.args.h c.if-h-eq0.false c.requires.1.1.0)

pub overflow_sub-h-then-p-half : goal.overflow_sub-h-then-p-half
overflow_sub-h-then-p-half t c = let r = room c.args.k c.args.h c.if-h-eq0.false c.requires.1.1.0 in r.some

pub slice_bounds-opened_below-count : goal.slice_bounds-opened_below-count
slice_bounds-opened_below-count t c = first_fits (room c.args.k c.args.h c.if-h-eq0.false c.requires.1.1.0).some c.requires.0

pub slice_bounds-opened_below-start : goal.slice_bounds-opened_below-start
slice_bounds-opened_below-start t c = slice_bounds-opened_below-count t c

pub slice_bounds-opened_below-end : goal.slice_bounds-opened_below-end
slice_bounds-opened_below-end t c = le_refl _

pub slice_bounds-opened_below-end-then-p-half : goal.slice_bounds-opened_below-end-then-p-half
slice_bounds-opened_below-end-then-p-half t c = half_le _

pub slice_bounds-opened_below-end-then-p-half-2 : goal.slice_bounds-opened_below-end-then-p-half-2
slice_bounds-opened_below-end-then-p-half-2 t c = sym (half_length c.args.out.now)

pub opened_below-requires : goal.opened_below-requires
opened_below-requires t c =
    let b = c in
    let r = room c.args.k c.args.h c.if-h-eq0.false c.requires.1.1.0 in (
      falls-one b.decreases r.some,
      (
        rest-is b.args.h b.args.siblings.now b.requires.0,
        (half_is b.args.out.now r b.requires.1.0, (r.left, rw c.leaves_of-half.ensures at c.if-p-half.true)),
      ),
    )

pub overflow_mul-k-then-p-half : goal.overflow_mul-k-then-p-half
overflow_mul-k-then-p-half t c = twice-fits (room c.args.k c.args.h c.if-h-eq0.false c.requires.1.1.0)

pub overflow_add-k : goal.overflow_add-k
overflow_add-k t c = twice-one-fits (room c.args.k c.args.h c.if-h-eq0.false c.requires.1.1.0)

pub overflow_sub-h-then-p-half-2 : goal.overflow_sub-h-then-p-half-2
overflow_sub-h-then-p-half-2 t c = let r = room c.args.k c.args.h c.if-h-eq0.false c.requires.1.1.0 in r.some

pub slice_bounds-leaves_below-end : goal.slice_bounds-leaves_below-end
slice_bounds-leaves_below-end t c = sym (first-length c.args.siblings.now (room c.args.k c.args.h c.if-h-eq0.false c.requires.1.1.0).some c.requires.0)

pub slice_bounds-leaves_below-count : goal.slice_bounds-leaves_below-count
slice_bounds-leaves_below-count t c = halves-room c.args.out.now c.opened_below.new.out c.opened_below.auto.out

pub slice_bounds-leaves_below-start : goal.slice_bounds-leaves_below-start
slice_bounds-leaves_below-start t c = slice_bounds-leaves_below-count t c

pub slice_bounds-leaves_below-end-then-p-half : goal.slice_bounds-leaves_below-end-then-p-half
slice_bounds-leaves_below-end-then-p-half t c = le_refl _

pub leaves_below-requires : goal.leaves_below-requires
leaves_below-requires t c =
    let b = c in
    let r = room c.args.k c.args.h c.if-h-eq0.false c.requires.1.1.0 in (
      first-length b.args.siblings.now r.some b.requires.0,
      (halves-second b.args.out.now c.opened_below.new.out c.opened_below.auto.out r b.requires.1.0, r.right),
    )

pub overflow_mul-k-else-p-half : goal.overflow_mul-k-else-p-half
overflow_mul-k-else-p-half t c = twice-fits (room c.args.k c.args.h c.if-h-eq0.false c.requires.1.1.0)

pub overflow_sub-h-else-p-half : goal.overflow_sub-h-else-p-half
overflow_sub-h-else-p-half t c = let r = room c.args.k c.args.h c.if-h-eq0.false c.requires.1.1.0 in r.some

pub slice_bounds-leaves_below-end-else-p-half : goal.slice_bounds-leaves_below-end-else-p-half
slice_bounds-leaves_below-end-else-p-half t c = sym (first-length c.args.siblings.now (room c.args.k c.args.h c.if-h-eq0.false c.requires.1.1.0).some c.requires.0)

pub slice_bounds-leaves_below-end-else-p-half-2 : goal.slice_bounds-leaves_below-end-else-p-half-2
slice_bounds-leaves_below-end-else-p-half-2 t c = half_le _

pub slice_bounds-leaves_below-end-else-p-half-3 : goal.slice_bounds-leaves_below-end-else-p-half-3
slice_bounds-leaves_below-end-else-p-half-3 t c = sym (half_length c.args.out.now)

pub leaves_below-requires-else-p-half : goal.leaves_below-requires-else-p-half
leaves_below-requires-else-p-half t c =
    let b = c in
    let r = room c.args.k c.args.h c.if-h-eq0.false c.requires.1.1.0 in (
      first-length b.args.siblings.now r.some b.requires.0,
      (half_is b.args.out.now r b.requires.1.0, r.left),
    )

pub overflow_mul-k-else-p-half-2 : goal.overflow_mul-k-else-p-half-2
overflow_mul-k-else-p-half-2 t c = twice-fits (room c.args.k c.args.h c.if-h-eq0.false c.requires.1.1.0)

pub overflow_add-k-else-p-half : goal.overflow_add-k-else-p-half
overflow_add-k-else-p-half t c = twice-one-fits (room c.args.k c.args.h c.if-h-eq0.false c.requires.1.1.0)

pub overflow_sub-h-else-p-half-2 : goal.overflow_sub-h-else-p-half-2
overflow_sub-h-else-p-half-2 t c = let r = room c.args.k c.args.h c.if-h-eq0.false c.requires.1.1.0 in r.some

pub slice_bounds-opened_below-count-else-p-half : goal.slice_bounds-opened_below-count-else-p-half
slice_bounds-opened_below-count-else-p-half t c = first_fits (room c.args.k c.args.h c.if-h-eq0.false c.requires.1.1.0).some c.requires.0

pub slice_bounds-opened_below-start-else-p-half : goal.slice_bounds-opened_below-start-else-p-half
slice_bounds-opened_below-start-else-p-half t c = slice_bounds-opened_below-count-else-p-half t c

pub slice_bounds-opened_below-end-else-p-half : goal.slice_bounds-opened_below-end-else-p-half
slice_bounds-opened_below-end-else-p-half t c = le_refl _

pub slice_bounds-opened_below-count-else-p-half-2 : goal.slice_bounds-opened_below-count-else-p-half-2
slice_bounds-opened_below-count-else-p-half-2 t c = halves-room c.args.out.now c.leaves_below-else-p-half.new.out c.leaves_below-else-p-half.auto.out

pub slice_bounds-opened_below-start-else-p-half-2 : goal.slice_bounds-opened_below-start-else-p-half-2
slice_bounds-opened_below-start-else-p-half-2 t c = slice_bounds-opened_below-count-else-p-half-2 t c

pub slice_bounds-opened_below-end-else-p-half-2 : goal.slice_bounds-opened_below-end-else-p-half-2
slice_bounds-opened_below-end-else-p-half-2 t c = le_refl _

pub opened_below-requires-else-p-half : goal.opened_below-requires-else-p-half
opened_below-requires-else-p-half t c =
    let b = c in
    let r = room c.args.k c.args.h c.if-h-eq0.false c.requires.1.1.0 in (
      falls-one b.decreases r.some,
      (
        rest-is b.args.h b.args.siblings.now b.requires.0,
        (
          halves-second b.args.out.now c.leaves_below-else-p-half.new.out c.leaves_below-else-p-half.auto.out r b.requires.1.0,
          (r.right, right-leaf r c.leaves_of-half.ensures c.if-p-half.false b.requires.1.1.1),
        ),
      ),
    )

pub returns-then-h-eq0 : goal.returns-then-h-eq0
returns-then-h-eq0 t c = let x = c.args in c.clear.ensures ∙ opened-none x.j x.k x.h x.p x.siblings.now (length x.out.now) c.if-h-eq0.true c.requires.1.0

pub returns-then-p-half : goal.returns-then-p-half
returns-then-p-half t c =
    let x = c.args in
    opened-joined-left x.j x.k x.h x.p c.leaves_of-half.result x.siblings.now x.out.now c.opened_below.new.out c.leaves_below.new.out
    c.if-h-eq0.false c.leaves_of-half.ensures c.requires.1.0 c.opened_below.auto.out c.if-p-half.true c.opened_below.ensures c.leaves_below.ensures

pub returns-else-p-half : goal.returns-else-p-half
returns-else-p-half t c =
    let x = c.args in
    opened-joined-right x.j x.k x.h x.p c.leaves_of-half.result x.siblings.now x.out.now c.leaves_below-else-p-half.new.out c.opened_below-else-p-half.new.out
    c.if-h-eq0.false c.leaves_of-half.ensures c.requires.1.0 c.leaves_below-else-p-half.auto.out c.if-p-half.false c.leaves_below-else-p-half.ensures c.opened_below-else-p-half.ensures
