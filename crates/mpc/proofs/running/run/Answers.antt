-- `mpc::running::run` meets its contract.
-- Assumes nothing.
use mathlib.Core.Path.{ap, ◌∙◌}
use Prim.Native.Nat.{ℕ}
use lib.ListN.{replicate}
use Rattle.std.proofs.lemmas.Result.{err_from_is_err_and}
use Rattle.mpc.proofs.Opened.{opened}
use Rattle.mpc.proofs.Lent.{known-few, work-long}
use Rattle.mpc.proofs.Ran.{run-refused, run_short, run-left}
use Rattle.mpc.proofs.running.run.Goals as goal

pub work_bytes-need-requires : goal.work_bytes-need-requires
work_bytes-need-requires c = known-few _ _ (opened _ _ _ c.in_ok-z.was c.read.ensures)

pub returns-then-work-need : goal.returns-then-work-need
returns-then-work-need c = run_short _ _ _ _ _ _ _ _ _ _ c.read.ensures _ c.in_ok-z.was _ c.work_bytes-need.ensures c.if-work-need.true

pub run_lent-ended-requires : goal.run_lent-ended-requires
run_lent-ended-requires c = (opened _ _ _ c.in_ok-z.was c.read.ensures, work-long _ _ _ c.work_bytes-need.ensures c.if-work-need.false)

pub returns-in_err-z : goal.returns-in_err-z
returns-in_err-z c =
    let p = err_from_is_err_and c.from_residual.result c.from_residual.ensures.1 in
    rw (p.1, p.2) (run-refused _ _ _ _ _ _ _ _ _ _ c.read.ensures _ c.in_err-z.was)

pub returns : goal.returns
returns c =
    run-left _ _ _ _ _ _ _ _ _ _ c.read.ensures _ c.in_ok-z.was _ c.work_bytes-need.ensures c.if-work-need.false c.run_lent-ended.result _ _ _ c.run_lent-ended.ensures _
    (c.clear.ensures ∙ ap (λ (k : ℕ). replicate k 0) c.run_lent-ended.auto.memory)
