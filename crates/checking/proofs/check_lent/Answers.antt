-- `checking::check_lent` meets its contract.
-- Assumes nothing.
use mathlib.Core.Path.{sym, ap, subst}
use mathlib.Core.List.{List}
use Prim.Native.Nat.{ℕ}
use native.Mathlib.Omega.{arith}
use lib.ListN.{take}
use lib.Seq.{length-take-le}
use Rattle.std.proofs.lemmas.Result.{err_from_is_err_and}
use Rattle.proof_tests.specs.Steps.{Tested, in_table}
use Rattle.checking.proofs.Entries.{lent-refused, lent-taken, lent-room, lent-judged}
use Rattle.checking.proofs.check_lent.Goals as goal

pub overflow_cast-c : goal.overflow_cast-c
overflow_cast-c c =
    let r = lent-taken _ _ _ _ _ c.test_lent.ensures.result_value _ _ _ c.test_lent.ensures.took _ c.in_ok-f.was in
    omega (arith, r.1.tested.sized.few)

pub row_count-r-requires : goal.row_count-r-requires
row_count-r-requires c = (lent-taken _ _ _ _ _ c.test_lent.ensures.result_value _ _ _ c.test_lent.ensures.took _ c.in_ok-f.was).1.tested.sized.few

pub slice_bounds-table-end : goal.slice_bounds-table-end
slice_bounds-table-end c =
    let r = lent-taken _ _ _ _ _ c.test_lent.ensures.result_value _ _ _ c.test_lent.ensures.took _ c.in_ok-f.was in
    omega (arith, c.test_lent.auto.table, r.1.tested.sized.few)

pub slice_bounds-verify-end : goal.slice_bounds-verify-end
slice_bounds-verify-end c =
    let r = lent-taken _ _ _ _ _ c.test_lent.ensures.result_value _ _ _ c.test_lent.ensures.took _ c.in_ok-f.was in
    sym (length-take-le c.in_ok-f.f.counts.instances c.test_lent.new.table (omega (arith, c.test_lent.auto.table, r.1.tested.sized.few)))

pub slice_bounds-verify-end-2 : goal.slice_bounds-verify-end-2
slice_bounds-verify-end-2 c =
    sym (length-take-le c.row_count-r.result c.test_lent.new.marks (omega (arith, c.test_lent.auto.marks, c.row_count-r.ensures.1)))

pub slice_bounds-marks-end : goal.slice_bounds-marks-end
slice_bounds-marks-end c = omega (arith, c.test_lent.auto.marks, c.row_count-r.ensures.1)

pub verify-requires : goal.verify-requires
verify-requires c =
    let x = c.args in
    let table = c.test_lent.new.table in
    let marks = c.test_lent.new.marks in
    let r = lent-taken _ _ _ _ _ c.test_lent.ensures.result_value _ _ _ c.test_lent.ensures.took _ c.in_ok-f.was in (
      subst (λ (m : List ℕ). Tested x.s.now c.in_ok-f.f x.proof.now (in_table table c.in_ok-f.f) m) (ap (λ (i : ℕ). take i marks) (sym c.row_count-r.ensures.0)) r.1.tested,
      lent-room _ _ _ _ _ c.test_lent.ensures.result_value _ _ _ c.test_lent.ensures.took _ c.in_ok-f.was _ c.requires.1.1,
    )

pub returns-in_err-f : goal.returns-in_err-f
returns-in_err-f c =
    let x = c.args in
    let p = err_from_is_err_and c.from_residual.result c.from_residual.ensures.1 in
    rw (p.1, p.2) (lent-refused x.s.now x.y.now x.message.now x.proof.now _ c.test_lent.ensures.result_value _ c.in_err-f.was)

pub returns : goal.returns
returns c = lent-judged _ _ _ _ _ c.test_lent.ensures.result_value _ _ _ c.test_lent.ensures.took _ c.in_ok-f.was _ c.verify.ensures
