-- `checking::check` meets its contract.
-- Assumes nothing.
use mathlib.Core.Path.{ap, ◌∙◌}
use Prim.Native.Nat.{ℕ}
use native.Mathlib.Omega.{arith}
use lib.ListN.{replicate}
use Rattle.std.proofs.lemmas.Result.{err_from_is_err_and}
use Rattle.mpc.proofs.Opened.{opened, opened-legal}
use Rattle.mpc.proofs.Lent.{known-few}
use Rattle.proof_tests.proofs.Outcomes.{check-refused, check-short, check-left}
use Rattle.checking.proofs.check.Goals as goal

pub work_bytes-requires : goal.work_bytes-requires
work_bytes-requires c = known-few _ _ (opened _ _ _ c.in_ok-z.was c.read.ensures)

pub returns-then-work-work_bytes : goal.returns-then-work-work_bytes
returns-then-work-work_bytes c = check-short _ _ _ _ _ _ c.read.ensures _ c.in_ok-z.was _ c.work_bytes.ensures c.if-work-work_bytes.true

pub check_lent-ended-requires : goal.check_lent-ended-requires
check_lent-ended-requires c = (opened-legal _ _ _ c.in_ok-z.was c.read.ensures, (opened _ _ _ c.in_ok-z.was c.read.ensures, omega (arith, c.work_bytes.ensures, c.if-work-work_bytes.false)))

pub returns-in_err-z : goal.returns-in_err-z
returns-in_err-z c =
    let p = err_from_is_err_and c.from_residual.result c.from_residual.ensures.1 in
    rw (p.1, p.2) (check-refused _ _ _ _ _ _ c.read.ensures _ c.in_err-z.was)

pub returns : goal.returns
returns c = check-left _ _ _ _ _ _ c.read.ensures _ c.in_ok-z.was _ c.work_bytes.ensures c.if-work-work_bytes.false _ c.check_lent-ended.ensures _ (c.clear.ensures ∙ ap (λ (k : ℕ). replicate k 0) c.check_lent-ended.auto.memory)
