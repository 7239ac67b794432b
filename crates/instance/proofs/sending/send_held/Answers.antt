-- `instance::sending::send_held` meets its contract.
-- Assumes nothing.
use mathlib.Core.Path.{◌≡◌, sym, ◌∙◌}
use Prim.Native.Nat.{◌+◌, ◌*◌}
use native.Mathlib.Omega.{arith}
use borrow.Rule.Slice.PartMut.{mid_len}
use lib.Seq.{length-take-le, length_front}
use Rattle.planes.specs.Steps.{corrections_at}
use Rattle.planes.proofs.Fits.{spare-small}
use Rattle.instance.specs.Steps.{held_bytes}
use Rattle.instance.proofs.Trees.{tree-parties, tree-low}
use Rattle.instance.proofs.Rooms.{room-low, place_is, corrections-inside}
use Rattle.instance.proofs.Committed.{digest-length}
use Rattle.instance.proofs.Laid.{three-parts, sent-most, siblings-asks, held-laid}
use Rattle.instance.proofs.sending.send_held.Goals as goal

pub layout-l-requires : goal.layout-l-requires
layout-l-requires c = c.requires.0.few_wires

pub corrections_at-at-requires : goal.corrections_at-at-requires
corrections_at-at-requires c = room-low _ _ c.requires.0 _ c.layout-l.ensures

pub rows_at-rows-requires : goal.rows_at-rows-requires
rows_at-rows-requires c = room-low _ _ c.requires.0 _ c.layout-l.ensures

pub sent_bytes-requires : goal.sent_bytes-requires
sent_bytes-requires c =
    let p = c.requires in
    (p.1.1.0, p.1.1.1.1.0)

pub overflow_add-end : goal.overflow_add-end
overflow_add-end c =
    let p = c.requires in
    let x = c.args in
    let l = room-low _ _ p.0 _ c.layout-l.ensures in
    omega (arith, l, spare-small c.layout-l.result, c.corrections_at-at.ensures, sent-most x.z x.inst.parties x.p c.sent_bytes.result c.sent_bytes.ensures, p.1.1.0)

pub slice_bounds-commit_row-count : goal.slice_bounds-commit_row-count
slice_bounds-commit_row-count c =
    let x = c.args in
    (corrections-inside _ x.inst.parties _ c.layout-l.ensures x.memory.now c.requires.1.0 _ _ c.corrections_at-at.ensures c.rows_at-rows.ensures).0

pub slice_bounds-commit_row-start : goal.slice_bounds-commit_row-start
slice_bounds-commit_row-start c =
    let x = c.args in
    (corrections-inside _ x.inst.parties _ c.layout-l.ensures x.memory.now c.requires.1.0 _ _ c.corrections_at-at.ensures c.rows_at-rows.ensures).0

pub slice_bounds-commit_row-end : goal.slice_bounds-commit_row-end
slice_bounds-commit_row-end c =
    let x = c.args in
    (corrections-inside _ x.inst.parties _ c.layout-l.ensures x.memory.now c.requires.1.0 _ _ c.corrections_at-at.ensures c.rows_at-rows.ensures).1

pub commit_row-com-requires : goal.commit_row-com-requires
commit_row-com-requires c =
    let p = c.requires in
    (omega (arith, p.1.1.1.1.0, (tree-parties _ _ p.1.1.1.0).few), p.1.1.1.1.1.1.0)

pub overflow_cast-first : goal.overflow_cast-first
overflow_cast-first c = omega (arith, tree-low _ _ c.requires.1.1.1.0)

pub overflow_mul-first : goal.overflow_mul-first
overflow_mul-first c = omega (arith, tree-low _ _ c.requires.1.1.1.0)

pub slice_bounds-siblings_below-end : goal.slice_bounds-siblings_below-end
slice_bounds-siblings_below-end c = omega (arith, c.requires.1.1.1.1.1.1.1)

pub slice_bounds-siblings_below-end-2 : goal.slice_bounds-siblings_below-end-2
slice_bounds-siblings_below-end-2 c =
    let x = c.args in
    sym (length-take-le (16 * x.inst.height) x.part.now (omega (arith, c.requires.1.1.1.1.1.1.1)))

pub siblings_below-requires : goal.siblings_below-requires
siblings_below-requires c =
    let p = c.requires in
    let x = c.args in
    (p.1.1.1.1.1.0, (length-take-le (16 * x.inst.height) x.part.now (omega (arith, p.1.1.1.1.1.1.1)), siblings-asks _ _ _ p.1.1.1.0 p.1.1.1.1.0))

pub slice_bounds-put-end : goal.slice_bounds-put-end
slice_bounds-put-end c =
    let x = c.args in
    omega (arith, sent-most x.z x.inst.parties x.p c.sent_bytes.result c.sent_bytes.ensures, c.requires.1.0, place_is corrections_at x.z c.layout-l.result c.corrections_at-at.result c.layout-l.ensures c.corrections_at-at.ensures)

pub put-second-requires : goal.put-second-requires
put-second-requires c =
    let p = c.requires in
    let x = c.args in
    omega (arith, length_front x.part.now c.siblings_below.new.out (16 * x.inst.height) c.siblings_below.auto.out, mid_len c.corrections_at-at.result (c.corrections_at-at.result + c.sent_bytes.result) x.memory.now (omega (arith, sent-most x.z x.inst.parties x.p c.sent_bytes.result c.sent_bytes.ensures, p.1.0, place_is corrections_at x.z c.layout-l.result c.corrections_at-at.result c.layout-l.ensures c.corrections_at-at.ensures)), c.sent_bytes.ensures, p.1.1.1.1.1.1.1)

pub slice_bounds-put-end-2 : goal.slice_bounds-put-end-2
slice_bounds-put-end-2 c = sym (digest-length _ _ c.commit_row-com.ensures)

pub put-requires : goal.put-requires
put-requires c =
    let p = c.requires in
    let x = c.args in
    omega (arith, c.put-second.auto.part, c.put-second.ensures.value, length_front x.part.now c.siblings_below.new.out (16 * x.inst.height) c.siblings_below.auto.out, mid_len c.corrections_at-at.result (c.corrections_at-at.result + c.sent_bytes.result) x.memory.now (omega (arith, sent-most x.z x.inst.parties x.p c.sent_bytes.result c.sent_bytes.ensures, p.1.0, place_is corrections_at x.z c.layout-l.result c.corrections_at-at.result c.layout-l.ensures c.corrections_at-at.ensures)), c.sent_bytes.ensures, p.1.1.1.1.1.1, digest-length _ _ c.commit_row-com.ensures)

pub returns : goal.returns
returns c =
    let p = c.requires in
    let x = c.args in
    let t = digest-length _ _ c.commit_row-com.ensures in
    let r : c.put.result ≡ held_bytes x.z x.inst.parties x.inst.height x.p = omega (arith, c.put.ensures.value, c.put-second.ensures.value, mid_len c.corrections_at-at.result (c.corrections_at-at.result + c.sent_bytes.result) x.memory.now (omega (arith, sent-most x.z x.inst.parties x.p c.sent_bytes.result c.sent_bytes.ensures, p.1.0, place_is corrections_at x.z c.layout-l.result c.corrections_at-at.result c.layout-l.ensures c.corrections_at-at.ensures)), c.sent_bytes.ensures, t) in record {
      value = r;
      part_after = held-laid _ _ x.p _ x.memory.now c.sent_bytes.ensures _ _ _ _ _ _ x.master.now x.own.now _ _ _ _ c.layout-l.ensures c.corrections_at-at.ensures c.rows_at-rows.ensures c.siblings_below.ensures c.commit_row-com.ensures r
          (three-parts (16 * x.inst.height) _ _ x.part.now c.siblings_below.new.out _ _ _ _ (c.siblings_below.auto.out ∙ length-take-le (16 * x.inst.height) x.part.now (omega (arith, p.1.1.1.1.1.1.1))) c.put-second.ensures.value c.put-second.ensures.part_after c.put.ensures.value c.put.ensures.part_after);
    }
