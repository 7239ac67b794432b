-- `tree::siblings_below` meets its contract: by the remaining height: a sibling, then those below the child on the path.
-- Assumes nothing.
use Rattle.tree.proofs.Nodes.{room, siblings-none, siblings-joined-left, siblings-joined-right, falls-one, twice-fits, twice-one-fits, right-leaf, first_fits, first-length, left-length, right-length, first-room, first-second}
use native.Mathlib.Nat.{le_refl}
use native.Mathlib.Omega.{arith}
use mathlib.Core.Path.{refl, sym, ◌∙◌}
use Rattle.tree.proofs.+siblings_below.Goals as goal

pub slice_bounds-children-end : goal.slice_bounds-children-end
slice_bounds-children-end t c = refl

pub children-requires : goal.children-requires
children-requires t c = refl

pub overflow_sub-h : goal.overflow_sub-h
overflow_sub-h t c = let r = room c.args.k c.args.h c.if-h-ne0.true c.requires.1.1.0 in r.some

pub leaves_of-half-requires : goal.leaves_of-half-requires
leaves_of-half-requires t c = let r = room c.args.k c.args.h c.if-h-ne0.true c.requires.1.1.0 in r.short

pub slice_bounds-copy-end-then-p-half : goal.slice_bounds-copy-end-then-p-half
slice_bounds-copy-end-then-p-half t c = first_fits (room c.args.k c.args.h c.if-h-ne0.true c.requires.1.1.0).some c.requires.1.0

pub slice_bounds-copy-end-then-p-half-2 : goal.slice_bounds-copy-end-then-p-half-2
slice_bounds-copy-end-then-p-half-2 t c = sym (first-length c.args.out.now (room c.args.k c.args.h c.if-h-ne0.true c.requires.1.1.0).some c.requires.1.0)

pub copy-requires : goal.copy-requires
copy-requires t c = first-length c.args.out.now (room c.args.k c.args.h c.if-h-ne0.true c.requires.1.1.0).some c.requires.1.0 ∙ sym (right-length c.children.new.out c.children.auto.out)

pub overflow_mul-k : goal.overflow_mul-k
overflow_mul-k t c = twice-fits (room c.args.k c.args.h c.if-h-ne0.true c.requires.1.1.0)

pub overflow_sub-h-then-p-half : goal.overflow_sub-h-then-p-half
overflow_sub-h-then-p-half t c = let r = room c.args.k c.args.h c.if-h-ne0.true c.requires.1.1.0 in r.some

pub slice_bounds-c-end : goal.slice_bounds-c-end
slice_bounds-c-end t c = omega (arith, c.children.auto.out)

pub slice_bounds-siblings_below-end : goal.slice_bounds-siblings_below-end
slice_bounds-siblings_below-end t c = sym (left-length c.children.new.out c.children.auto.out)

pub slice_bounds-siblings_below-count : goal.slice_bounds-siblings_below-count
slice_bounds-siblings_below-count t c = first-room c.args.h c.args.out.now c.copy.new.to (room c.args.k c.args.h c.if-h-ne0.true c.requires.1.1.0).some c.requires.1.0 c.copy.auto.to

pub slice_bounds-siblings_below-start : goal.slice_bounds-siblings_below-start
slice_bounds-siblings_below-start t c = slice_bounds-siblings_below-count t c

pub slice_bounds-siblings_below-end-then-p-half : goal.slice_bounds-siblings_below-end-then-p-half
slice_bounds-siblings_below-end-then-p-half t c = le_refl _

pub siblings_below-requires : goal.siblings_below-requires
siblings_below-requires t c =
    let b = c in
    let r = room c.args.k c.args.h c.if-h-ne0.true c.requires.1.1.0 in (
      falls-one b.decreases r.some,
      (
        left-length c.children.new.out c.children.auto.out,
        (first-second b.args.h b.args.out.now c.copy.new.to r.some b.requires.1.0 c.copy.auto.to, (r.left, rw c.leaves_of-half.ensures at c.if-p-half.true)),
      ),
    )

pub slice_bounds-c-end-else-p-half : goal.slice_bounds-c-end-else-p-half
slice_bounds-c-end-else-p-half t c = omega (arith, c.children.auto.out)

pub slice_bounds-copy-end-else-p-half : goal.slice_bounds-copy-end-else-p-half
slice_bounds-copy-end-else-p-half t c = sym (left-length c.children.new.out c.children.auto.out)

pub slice_bounds-copy-end-else-p-half-2 : goal.slice_bounds-copy-end-else-p-half-2
slice_bounds-copy-end-else-p-half-2 t c = first_fits (room c.args.k c.args.h c.if-h-ne0.true c.requires.1.1.0).some c.requires.1.0

pub slice_bounds-copy-end-else-p-half-3 : goal.slice_bounds-copy-end-else-p-half-3
slice_bounds-copy-end-else-p-half-3 t c = sym (first-length c.args.out.now (room c.args.k c.args.h c.if-h-ne0.true c.requires.1.1.0).some c.requires.1.0)

pub copy-requires-else-p-half : goal.copy-requires-else-p-half
copy-requires-else-p-half t c = first-length c.args.out.now (room c.args.k c.args.h c.if-h-ne0.true c.requires.1.1.0).some c.requires.1.0 ∙ sym (left-length c.children.new.out c.children.auto.out)

pub overflow_mul-k-else-p-half : goal.overflow_mul-k-else-p-half
overflow_mul-k-else-p-half t c = twice-fits (room c.args.k c.args.h c.if-h-ne0.true c.requires.1.1.0)

pub overflow_add-k : goal.overflow_add-k
overflow_add-k t c = twice-one-fits (room c.args.k c.args.h c.if-h-ne0.true c.requires.1.1.0)

pub overflow_sub-h-else-p-half : goal.overflow_sub-h-else-p-half
overflow_sub-h-else-p-half t c = let r = room c.args.k c.args.h c.if-h-ne0.true c.requires.1.1.0 in r.some

pub slice_bounds-siblings_below-count-else-p-half-2 : goal.slice_bounds-siblings_below-count-else-p-half-2
slice_bounds-siblings_below-count-else-p-half-2 t c = first-room c.args.h c.args.out.now c.copy-else-p-half.new.to (room c.args.k c.args.h c.if-h-ne0.true c.requires.1.1.0).some c.requires.1.0 c.copy-else-p-half.auto.to

pub slice_bounds-siblings_below-start-else-p-half-2 : goal.slice_bounds-siblings_below-start-else-p-half-2
slice_bounds-siblings_below-start-else-p-half-2 t c = slice_bounds-siblings_below-count-else-p-half-2 t c

pub slice_bounds-siblings_below-end-else-p-half-2 : goal.slice_bounds-siblings_below-end-else-p-half-2
slice_bounds-siblings_below-end-else-p-half-2 t c = le_refl _

pub siblings_below-requires-else-p-half : goal.siblings_below-requires-else-p-half
siblings_below-requires-else-p-half t c =
    let b = c in
    let r = room c.args.k c.args.h c.if-h-ne0.true c.requires.1.1.0 in (
      falls-one b.decreases r.some,
      (
        right-length c.children.new.out c.children.auto.out,
        (first-second b.args.h b.args.out.now c.copy-else-p-half.new.to r.some b.requires.1.0 c.copy-else-p-half.auto.to, (r.right, right-leaf r c.leaves_of-half.ensures c.if-p-half.false b.requires.1.1.1)),
      ),
    )

pub returns-then-p-half : goal.returns-then-p-half
returns-then-p-half t c =
    let x = c.args in
    siblings-joined-left x.j x.k x.h x.p c.leaves_of-half.result x.value.now c.children.new.out x.out.now
    c.copy.new.to c.siblings_below.new.out c.if-h-ne0.true c.leaves_of-half.ensures c.children.ensures c.children.auto.out
    c.if-p-half.true c.copy.ensures c.siblings_below.ensures

pub returns-else-p-half : goal.returns-else-p-half
returns-else-p-half t c =
    let x = c.args in
    siblings-joined-right x.j x.k x.h x.p c.leaves_of-half.result x.value.now c.children.new.out x.out.now
    c.copy-else-p-half.new.to c.siblings_below-else-p-half.new.out c.if-h-ne0.true c.leaves_of-half.ensures c.children.ensures c.children.auto.out
    c.if-p-half.false c.copy-else-p-half.ensures c.siblings_below-else-p-half.ensures

pub returns-else-h-ne0 : goal.returns-else-h-ne0
returns-else-h-ne0 t c = let x = c.args in siblings-none x.j x.k x.h x.p x.value.now x.out.now c.if-h-ne0.false c.requires.1.0
