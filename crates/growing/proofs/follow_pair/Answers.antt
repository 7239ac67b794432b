-- `growing::follow_pair` meets its contract: the two halves of a hash, or two values.
-- Assumes nothing.
use Rattle.tree.proofs.Nodes.{second-part}
use Rattle.growing.proofs.Following.{pair-hashed, pair-next, pair-given}
use native.Mathlib.Numerals.{add-one}
use native.Mathlib.Omega.{arith}
use mathlib.Core.Path.{◌≡◌, sym, ap, ◌∙◌}
use lib.ListN.{length}
use lib.Seq.{length-take-le}
use Prim.Native.Nat.{◌+◌, ◌*◌, suc}
use Rattle.cover.specs.Cover.{those}
use Rattle.cover.specs.Steps.{opened_by}
use Prim.Native.Nat.{ℕ}
use Rattle.growing.proofs.follow_pair.Goals as goal

pub returns-then-marks-k-eq1 : goal.returns-then-marks-k-eq1
returns-then-marks-k-eq1 c =
    let x = c.args in
    let q = c.requires in
    let t = c.if-marks-k-eq1.true in
    (pair-next x.j x.k x.marks.now x.values.now x.value.now x.n t q.1.1.0, pair-hashed x.j x.k x.marks.now x.values.now x.value.now _ t c.children.ensures)

pub slice_bounds-take_value-end-2 : goal.slice_bounds-take_value-end-2
slice_bounds-take_value-end-2 c = sym (length-take-le 16 c.args.out.now (omega (arith, c.requires.1.1.1)))

pub take_value-m-requires : goal.take_value-m-requires
take_value-m-requires c =
    let q = c.requires in
    (omega (arith, q.0.1.1), (q.1.0, (q.1.1.0, length-take-le 16 c.args.out.now (omega (arith, q.1.1.1)))))

pub take_value-requires : goal.take_value-requires
take_value-requires c =
    let x = c.args in
    let q = c.requires in
    let l : length c.take_value-m.new.out ≡ 16 = c.take_value-m.auto.out ∙ length-take-le 16 x.out.now (omega (arith, q.1.1.1)) in (
      q.0.1.1,
      (
        q.1.0,
        (
          c.take_value-m.ensures.0 ∙ ap (λ (m : ℕ). length (those m (opened_by x.marks.now))) (sym (add-one (2 * x.k))),
          second-part x.out.now c.take_value-m.new.out 16 l (omega (arith, q.1.1.1)) ∙ omega (arith, q.1.1.1),
        ),
      ),
    )

pub returns : goal.returns
returns c =
    let x = c.args in
    let q = c.requires in
    let l : length c.take_value-m.new.out ≡ 16 = c.take_value-m.auto.out ∙ length-take-le 16 x.out.now (omega (arith, q.1.1.1)) in
    let two : suc (2 * x.k + 1) ≡ 2 * x.k + 2 = omega arith in (
      c.take_value.ensures.0 ∙ ap (λ (m : ℕ). length (those m (opened_by x.marks.now))) two,
      pair-given x.j x.k x.marks.now x.values.now x.value.now x.out.now c.take_value-m.new.out _ c.if-marks-k-eq1.false l c.take_value-m.ensures.1 c.take_value.ensures.1,
    )
