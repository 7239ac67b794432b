-- `instance::committing::online` meets its contract. The loop's invariant: the rows of the groups before g are taken in, and the planes
-- are as they were.
-- Assumes nothing.
use mathlib.Core.Path.{refl, ◌∙◌}
use native.Mathlib.Omega.{arith}
use Prim.Native.Nat.{ℕ, ◌+◌, ◌*◌, ◌≤◌, ◌<◌}
use lib.ListN.{length, get_or}
use Rattle.hashing.proofs.Digests.{taken-room}
use Rattle.instance.proofs.Online.{block_same, online-turn, online-begins, online-ends, block_words, block-planes, block-fits}
use Rattle.instance.proofs.committing.online.Goals as goal
use Rattle.instance.proofs.committing.online.Goals.{In-loop-g, After-rows_in-count}

-- the group has parties
some : (c : In-loop-g) → 8 * c.loop-g.g < c.args.n
some c = omega (arith, c.div_ceil-g-end.ensures)

-- a block of rows is inside
inside : (c : After-rows_in-count)
    → c.rows_at-a.result + c.rows_in-count.result * c.row_bytes-len.result ≤ length c.loop-g.memory
inside c =
    let p = c.requires in
    let x = c.args in
    let l = c.loop-g in
    let fits = block-fits x.z c.layout-l.result c.layout-l.ensures c.row_bytes-len.result c.row_bytes-len.ensures x.memory.now l.memory l.invariant.0 c.rows_in-count.result c.rows_in-count.ensures.1.0 p.1.1 in
    omega (arith, fits, c.rows_at-a.ensures)

pub layout-l-requires : goal.layout-l-requires
layout-l-requires c = c.requires.0.few_wires

pub row_bytes-len-requires : goal.row_bytes-len-requires
row_bytes-len-requires c = omega (arith, c.requires.0.few_words)

pub rows_at-a-requires : goal.rows_at-a-requires
rows_at-a-requires c = let r = block-planes _ _ c.layout-l.ensures _ c.args.memory.now refl c.requires.0 in (r.few_wires, r.few_words)

pub absorb-s-requires : goal.absorb-s-requires
absorb-s-requires c = (omega arith, (refl, rw c.start_online.ensures (taken-room _)))

pub loop-g-init : goal.loop-g-init
loop-g-init c =
    let x = c.args in
    (refl, ((λ k. (c.slice_known-1.given k).fits), ((λ k h. refl), online-begins x.j x.n _ x.masked.now _ _ c.start_online.ensures c.absorb-s.ensures)))

pub rows_in-count-requires : goal.rows_in-count-requires
rows_in-count-requires c = some c

pub overflow_mul-end : goal.overflow_mul-end
overflow_mul-end c = omega (arith, inside c)

pub overflow_add-end : goal.overflow_add-end
overflow_add-end c = omega (arith, inside c)

pub store_block-requires : goal.store_block-requires
store_block-requires c =
    let p = c.requires in
    let e = c.loop-g.invariant.0 in
    let m = c.args.memory.now in
    let w = c.loop-g.memory in
    let few = c.rows_in-count.ensures.1.0 in
    (block-planes _ _ c.layout-l.ensures m w e p.0, (few, (omega (arith, some (goal.at.store_block-requires c).In-loop-g, p.1.0), (block_words _ _ c.layout-l.ensures _ c.row_bytes-len.ensures, block-fits _ _ c.layout-l.ensures _ c.row_bytes-len.ensures m w e _ few p.1.1))))

pub slice_bounds-absorb-end : goal.slice_bounds-absorb-end
slice_bounds-absorb-end c = omega (arith, inside (goal.at.slice_bounds-absorb-end c).After-rows_in-count, c.store_block.auto.memory)

pub absorb-s-requires-in-loop-g : goal.absorb-s-requires-in-loop-g
absorb-s-requires-in-loop-g c = (omega arith, (refl, rw c.loop-g.invariant.1.1.1 (taken-room _)))

pub loop-g-preserved : goal.loop-g-preserved
loop-g-preserved c =
    let p = c.requires in
    let x = c.args in
    let l = c.loop-g in
    let low : (k : ℕ) → get_or c.store_block.new.memory k 0 < 256 = λ k. (c.slice_known-in-loop-g-1.given k).fits in
    let m = x.memory.now in
    let ly = c.layout-l.result in
    let len = c.row_bytes-len.result in
    let few = c.rows_in-count.ensures.1.0 in
    let e = l.invariant.0 in
    let same = l.invariant.1.1.0 in
    let h = some (goal.at.loop-g-preserved c).In-loop-g in (
      c.store_block.auto.memory ∙ e,
      (
        low,
        (
          block_same ly len m l.memory same c.rows_in-count.result l.g c.store_block.new.memory c.store_block.ensures,
          online-turn ly len m l.memory same c.rows_in-count.result l.g c.store_block.new.memory c.store_block.ensures l.invariant.1.0 low few (omega (arith, h, p.1.0)) (block_words _ _ c.layout-l.ensures _ c.row_bytes-len.ensures)
              (block-fits _ _ c.layout-l.ensures _ c.row_bytes-len.ensures m l.memory e c.rows_in-count.result few p.1.1)
              c.store_block.auto.memory
              x.n
              c.rows_at-a.result
              x.j
              x.masked.now
              l.s
              _
              c.rows_at-a.ensures
              h
              c.rows_in-count.ensures.0
              l.invariant.1.1.1
              c.absorb-s-in-loop-g.ensures,
        ),
      ),
    )

pub finish-requires : goal.finish-requires
finish-requires c = rw c.loop-g.invariant.1.1.1 (taken-room _)

pub shape_of-memory : goal.shape_of-memory
shape_of-memory c = c.loop-g.invariant.0

pub returns : goal.returns
returns c =
    let x = c.args in
    let l = c.loop-g in
    online-ends x.z x.j x.n l.g _ _ x.masked.now x.memory.now _ l.s (λ k. (c.shared_slice_known-1.given k).fits) c.layout-l.ensures c.row_bytes-len.ensures (omega (arith, c.div_ceil-g-end.ensures)) l.invariant.1.1.1 c.finish.ensures
