-- `instance::checking::reopen_parties` meets its contract.
-- Assumes nothing.
use mathlib.Core.Path.{refl, sym, ◌∙◌}
use Prim.Native.Nat.{◌*◌}
use native.Mathlib.Omega.{arith}
use lib.Seq.{length-take-le}
use Rattle.mpc.proofs.Opened.{ands-low}
use Rattle.instance.proofs.Trees.{tree-low}
use Rattle.instance.proofs.Rooms.{few-parties, lent-kept, lent-end, lent-wires, places-low, corrections-inside, corrections-size}
use Rattle.instance.proofs.Checks.{sent-all, stretch-size, part_length, seeds-opened, tapes-shown, corrections-zero, corrections-sent, filled-seeds, filled-tapes, filled-corrections}
use Rattle.instance.proofs.checking.reopen_parties.Goals as goal

pub overflow_cast-first : goal.overflow_cast-first
overflow_cast-first c = omega (arith, tree-low _ _ c.requires.0.tree)

pub overflow_mul-first : goal.overflow_mul-first
overflow_mul-first c = omega (arith, tree-low _ _ c.requires.0.tree)

pub layout-l-requires : goal.layout-l-requires
layout-l-requires c = lent-wires _ _ _ _ _ c.requires.0

pub corrections_at-at-requires : goal.corrections_at-at-requires
corrections_at-at-requires c = places-low _ _ _ _ _ c.requires.0 _ c.layout-l.ensures

pub rows_at-rows-requires : goal.rows_at-rows-requires
rows_at-rows-requires c = places-low _ _ _ _ _ c.requires.0 _ c.layout-l.ensures

pub slice_bounds-hold_opened-end : goal.slice_bounds-hold_opened-end
slice_bounds-hold_opened-end c =
    let p = c.requires in
    let x = c.args in
    sym (length-take-le (16 * x.inst.height) x.part.now (omega (arith, stretch-size _ _ _ _ _ p.0.known _ _ x.p p.0.tree x.part.now p.1.1 _ refl)))

pub hold_opened-requires : goal.hold_opened-requires
hold_opened-requires c =
    let p = c.requires in
    let x = c.args in
    (p.0, (p.1.0, length-take-le (16 * x.inst.height) x.part.now (omega (arith, stretch-size _ _ _ _ _ p.0.known _ _ x.p p.0.tree x.part.now p.1.1 _ refl))))

pub overflow_add-p : goal.overflow_add-p
overflow_add-p c =
    let p = c.requires in
    omega (arith, p.1.0, few-parties _ _ _ _ _ p.0)

pub slice_bounds-clear-count : goal.slice_bounds-clear-count
slice_bounds-clear-count c = (corrections-inside _ c.args.inst.parties _ c.layout-l.ensures c.hold_opened.new.memory (lent-end _ _ _ _ _ (lent-kept _ _ _ _ _ c.requires.0 c.hold_opened.new.memory c.hold_opened.auto.memory)) _ _ c.corrections_at-at.ensures c.rows_at-rows.ensures).0

pub slice_bounds-clear-start : goal.slice_bounds-clear-start
slice_bounds-clear-start c = (corrections-inside _ c.args.inst.parties _ c.layout-l.ensures c.hold_opened.new.memory (lent-end _ _ _ _ _ (lent-kept _ _ _ _ _ c.requires.0 c.hold_opened.new.memory c.hold_opened.auto.memory)) _ _ c.corrections_at-at.ensures c.rows_at-rows.ensures).0

pub slice_bounds-clear-end : goal.slice_bounds-clear-end
slice_bounds-clear-end c = (corrections-inside _ c.args.inst.parties _ c.layout-l.ensures c.hold_opened.new.memory (lent-end _ _ _ _ _ (lent-kept _ _ _ _ _ c.requires.0 c.hold_opened.new.memory c.hold_opened.auto.memory)) _ _ c.corrections_at-at.ensures c.rows_at-rows.ensures).1

pub overflow_add-second : goal.overflow_add-second
overflow_add-second c =
    let p = c.requires in
    omega (arith, tree-low _ _ p.0.tree, c.oct.ensures, ands-low _ _ _ _ _ p.0.known, p.0.known.legal.laid.few_gates)

pub slice_bounds-copy-end : goal.slice_bounds-copy-end
slice_bounds-copy-end c =
    let p = c.requires in
    let x = c.args in
    omega (arith, stretch-size _ _ _ _ _ p.0.known _ _ x.p p.0.tree x.part.now p.1.1 _ (sent-all _ _ _ _ c.if-p-n.false c.oct.ensures))

pub slice_bounds-copy-count-else-p-n : goal.slice_bounds-copy-count-else-p-n
slice_bounds-copy-count-else-p-n c = (corrections-inside _ c.args.inst.parties _ c.layout-l.ensures c.hold_opened.new.memory (lent-end _ _ _ _ _ (lent-kept _ _ _ _ _ c.requires.0 c.hold_opened.new.memory c.hold_opened.auto.memory)) _ _ c.corrections_at-at.ensures c.rows_at-rows.ensures).0

pub slice_bounds-copy-start-else-p-n : goal.slice_bounds-copy-start-else-p-n
slice_bounds-copy-start-else-p-n c = (corrections-inside _ c.args.inst.parties _ c.layout-l.ensures c.hold_opened.new.memory (lent-end _ _ _ _ _ (lent-kept _ _ _ _ _ c.requires.0 c.hold_opened.new.memory c.hold_opened.auto.memory)) _ _ c.corrections_at-at.ensures c.rows_at-rows.ensures).0

pub slice_bounds-copy-end-else-p-n : goal.slice_bounds-copy-end-else-p-n
slice_bounds-copy-end-else-p-n c = (corrections-inside _ c.args.inst.parties _ c.layout-l.ensures c.hold_opened.new.memory (lent-end _ _ _ _ _ (lent-kept _ _ _ _ _ c.requires.0 c.hold_opened.new.memory c.hold_opened.auto.memory)) _ _ c.corrections_at-at.ensures c.rows_at-rows.ensures).1

pub copy-requires : goal.copy-requires
copy-requires c =
    let p = c.requires in
    let x = c.args in
    part_length (16 * x.inst.height) c.oct.result _ _ x.part.now (omega (arith, stretch-size _ _ _ _ _ p.0.known _ _ x.p p.0.tree x.part.now p.1.1 _ (sent-all _ _ _ _ c.if-p-n.false c.oct.ensures))) c.oct.ensures
    (corrections-size _ x.inst.parties _ c.layout-l.ensures c.hold_opened.new.memory (lent-end _ _ _ _ _ (lent-kept _ _ _ _ _ p.0 c.hold_opened.new.memory c.hold_opened.auto.memory)) _ _ c.corrections_at-at.ensures c.rows_at-rows.ensures)

pub returns-then-p-n : goal.returns-then-p-n
returns-then-p-n c =
    let p = c.requires in
    let x = c.args in
    let k = lent-end _ _ _ _ _ (lent-kept _ _ _ _ _ p.0 c.hold_opened.new.memory c.hold_opened.auto.memory) in
    let f = c.clear.auto.s in
    let y = c.clear.new.s in
    let t = corrections-size _ x.inst.parties _ c.layout-l.ensures c.hold_opened.new.memory k _ _ c.corrections_at-at.ensures c.rows_at-rows.ensures in record {
      memory_after = filled-seeds _ _ _ c.layout-l.ensures c.hold_opened.new.memory k _ _ c.corrections_at-at.ensures c.rows_at-rows.ensures y f (few-parties _ _ _ _ _ p.0) _ (seeds-opened _ _ _ _ p.0.tree x.part.now _ c.hold_opened.ensures.memory_after);
      memory_after_2 = filled-tapes _ _ _ c.layout-l.ensures c.hold_opened.new.memory k _ _ c.corrections_at-at.ensures c.rows_at-rows.ensures y f _ (tapes-shown _ _ _ _ _ p.0.tree p.1.0 x.part.now _ c.hold_opened.ensures.memory_after_2);
      memory_after_3 = filled-corrections _ x.inst.parties _ c.layout-l.ensures c.hold_opened.new.memory k _ _ c.corrections_at-at.ensures c.rows_at-rows.ensures y f
          ∙ corrections-zero _ _ _ _ _ p.0.known x.inst.parties _ x.inst.context x.p p.0.tree x.part.now p.1.1 _ _ c.if-p-n.true t c.clear.ensures;
    }

pub returns-else-p-n : goal.returns-else-p-n
returns-else-p-n c =
    let p = c.requires in
    let x = c.args in
    let k = lent-end _ _ _ _ _ (lent-kept _ _ _ _ _ p.0 c.hold_opened.new.memory c.hold_opened.auto.memory) in
    let f = c.copy.auto.to in
    let y = c.copy.new.to in record {
      memory_after = filled-seeds _ _ _ c.layout-l.ensures c.hold_opened.new.memory k _ _ c.corrections_at-at.ensures c.rows_at-rows.ensures y f (few-parties _ _ _ _ _ p.0) _ (seeds-opened _ _ _ _ p.0.tree x.part.now _ c.hold_opened.ensures.memory_after);
      memory_after_2 = filled-tapes _ _ _ c.layout-l.ensures c.hold_opened.new.memory k _ _ c.corrections_at-at.ensures c.rows_at-rows.ensures y f _ (tapes-shown _ _ _ _ _ p.0.tree p.1.0 x.part.now _ c.hold_opened.ensures.memory_after_2);
      memory_after_3 = filled-corrections _ x.inst.parties _ c.layout-l.ensures c.hold_opened.new.memory k _ _ c.corrections_at-at.ensures c.rows_at-rows.ensures y f
          ∙ corrections-sent _ _ _ _ _ p.0.known x.inst.parties _ x.inst.context x.p p.0.tree x.part.now p.1.1 c.oct.result _ c.if-p-n.false c.oct.ensures c.copy.ensures;
    }
