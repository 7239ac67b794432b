-- `seeds::open_listed` meets its contract: the marks, the count of the opened nodes and their values.
-- Assumes nothing.
use mathlib.Core.List.{List, [], ◌∷◌}
use borrow.Author.Tests.{eq-eqb, ne_eqb}
use Rattle.refusal.specs.Outcome.{done}
use Rattle.bits.proofs.Copies.{prefix-length}
use Rattle.cover.specs.Masters.{cover_bytes}
use Rattle.seeds.specs.Operations.{listed}
use Rattle.seeds.proofs.Nodes.{height-few, leaves-few, front-holds, front-is, front-reaches, length-front-marks, front_length, count-few, count-front, count-bytes, opened-bytes}
use native.Mathlib.Omega.{arith}
use native.Mathlib.Nat.{pow-succ'}
use mathlib.Core.Path.{refl, sym, ap, ◌∙◌}
use Prim.Native.Nat.{ℕ, ◌*◌, ◌^◌}
use lib.ListN.{length}
use Rattle.seeds.proofs.open_listed.Goals as goal

pub leaves-end-requires : goal.leaves-end-requires
leaves-end-requires c = omega (arith, height-few c.args.m c.height-h.result (2 ^ c.height-h.result) c.requires.0 c.height-h.ensures refl)

pub overflow_mul-end : goal.overflow_mul-end
overflow_mul-end c = omega (arith, leaves-few c.args.m c.height-h.result c.leaves-end.result c.requires.0 c.height-h.ensures c.leaves-end.ensures)

pub slice_bounds-marks-end : goal.slice_bounds-marks-end
slice_bounds-marks-end c = omega (arith, leaves-few c.args.m c.height-h.result c.leaves-end.result c.requires.0 c.height-h.ensures c.leaves-end.ensures)

pub slice_bounds-mark_listed-end : goal.slice_bounds-mark_listed-end
slice_bounds-mark_listed-end c = sym (prefix-length (2 * c.leaves-end.result) 1024 (omega (arith, leaves-few c.args.m c.height-h.result c.leaves-end.result c.requires.0 c.height-h.ensures c.leaves-end.ensures)))

pub mark_listed-requires : goal.mark_listed-requires
mark_listed-requires c = (
  c.requires.0,
  (
    c.requires.1.0,
    prefix-length (2 * c.leaves-end.result) 1024 (omega (arith, leaves-few c.args.m c.height-h.result c.leaves-end.result c.requires.0 c.height-h.ensures c.leaves-end.ensures)) ∙ omega (arith, c.leaves-end.ensures, pow-succ' 2 c.height-h.result),
  ),
)

pub slice_bounds-marks-end-2 : goal.slice_bounds-marks-end-2
slice_bounds-marks-end-2 c = front-holds (2 * c.leaves-end.result) (2 * c.leaves-end.result) c.mark_listed.new.marks _ (length-front-marks c.args.m c.height-h.result c.leaves-end.result (listed c.args.list.now) c.mark_listed.new.marks c.leaves-end.ensures c.mark_listed.ensures) (omega arith)

pub slice_bounds-opened_before-end : goal.slice_bounds-opened_before-end
slice_bounds-opened_before-end c = sym (front-is (2 * c.leaves-end.result) c.mark_listed.new.marks _ (length-front-marks c.args.m c.height-h.result c.leaves-end.result (listed c.args.list.now) c.mark_listed.new.marks c.leaves-end.ensures c.mark_listed.ensures))

pub opened_before-n-requires : goal.opened_before-n-requires
opened_before-n-requires c = front-reaches (2 * c.leaves-end.result) c.mark_listed.new.marks _ (length-front-marks c.args.m c.height-h.result c.leaves-end.result (listed c.args.list.now) c.mark_listed.new.marks c.leaves-end.ensures c.mark_listed.ensures)

pub overflow_mul-n : goal.overflow_mul-n
overflow_mul-n c = omega (arith, count-few c.args.m c.height-h.result c.leaves-end.result (listed c.args.list.now) c.height-h.ensures c.leaves-end.ensures c.mark_listed.new.marks _ c.mark_listed.ensures _ c.opened_before-n.ensures, leaves-few c.args.m c.height-h.result c.leaves-end.result c.requires.0 c.height-h.ensures c.leaves-end.ensures)

pub returns-then-out-n : goal.returns-then-out-n
returns-then-out-n c =
    let x = c.args in
    rw (ne_eqb (length x.out.now) (cover_bytes x.m (listed x.list.now)) (λ e. c.if-out-n.true (e ∙ sym (count-bytes c.args.m c.height-h.result c.leaves-end.result (listed c.args.list.now) c.height-h.ensures c.leaves-end.ensures c.mark_listed.new.marks _ c.mark_listed.ensures _ c.opened_before-n.ensures))))

pub slice_bounds-marks-end-3 : goal.slice_bounds-marks-end-3
slice_bounds-marks-end-3 c = front-holds (2 * c.leaves-end.result) (2 * c.leaves-end.result) c.mark_listed.new.marks _ (length-front-marks c.args.m c.height-h.result c.leaves-end.result (listed c.args.list.now) c.mark_listed.new.marks c.leaves-end.ensures c.mark_listed.ensures) (omega arith)

pub slice_bounds-open_nodes-end : goal.slice_bounds-open_nodes-end
slice_bounds-open_nodes-end c = sym (front-is (2 * c.leaves-end.result) c.mark_listed.new.marks _ (length-front-marks c.args.m c.height-h.result c.leaves-end.result (listed c.args.list.now) c.mark_listed.new.marks c.leaves-end.ensures c.mark_listed.ensures))

pub open_nodes-requires : goal.open_nodes-requires
open_nodes-requires c = (
  (height-few c.args.m c.height-h.result c.leaves-end.result c.requires.0 c.height-h.ensures c.leaves-end.ensures, c.requires.1.1),
  (front_length c.args.m c.height-h.result c.leaves-end.result (listed c.args.list.now) c.height-h.ensures c.leaves-end.ensures c.mark_listed.new.marks _ c.mark_listed.ensures, omega (arith, c.if-out-n.false) ∙ count-front c.args.m c.height-h.result c.leaves-end.result (listed c.args.list.now) c.height-h.ensures c.leaves-end.ensures c.mark_listed.new.marks _ c.mark_listed.ensures _ c.opened_before-n.ensures),
)

pub returns : goal.returns
returns c =
    let x = c.args in
    rw (eq-eqb (length x.out.now) (cover_bytes x.m (listed x.list.now)) (omega (arith, c.if-out-n.false) ∙ count-bytes c.args.m c.height-h.result c.leaves-end.result (listed c.args.list.now) c.height-h.ensures c.leaves-end.ensures c.mark_listed.new.marks _ c.mark_listed.ensures _ c.opened_before-n.ensures))
    (ap (λ (o : List ℕ). done (o ∷ [])) (c.open_nodes.ensures ∙ opened-bytes c.args.m c.height-h.result c.leaves-end.result (listed c.args.list.now) c.height-h.ensures c.leaves-end.ensures c.mark_listed.new.marks _ c.mark_listed.ensures x.salt.now x.root.now c.requires.1.1.1))
