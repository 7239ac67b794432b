-- `mpc::preparing::prepare` meets its contract.
-- Assumes nothing.
use native.Mathlib.Omega.{arith}
use Rattle.std.proofs.lemmas.Result.{err_from_is_err_and}
use Rattle.mpc.proofs.Opened.{opened}
use Rattle.mpc.proofs.Lent.{known-few, work-long, all-cleared}
use Rattle.mpc.proofs.Prepared.{prepare-refused, prepare-short, prepare-left}
use Rattle.mpc.proofs.preparing.prepare.Goals as goal

pub work_bytes-need-requires : goal.work_bytes-need-requires
work_bytes-need-requires c = known-few _ _ (opened _ _ _ c.in_ok-z.was c.read.ensures)

pub returns-then-work-need : goal.returns-then-work-need
returns-then-work-need c = prepare-short _ _ _ _ _ _ c.read.ensures _ c.in_ok-z.was _ c.work_bytes-need.ensures c.if-work-need.true

pub prepare_lent-ended-requires : goal.prepare_lent-ended-requires
prepare_lent-ended-requires c = (opened _ _ _ c.in_ok-z.was c.read.ensures, work-long _ _ _ c.work_bytes-need.ensures c.if-work-need.false)

pub returns-in_err-z : goal.returns-in_err-z
returns-in_err-z c =
    let p = err_from_is_err_and c.from_residual.result c.from_residual.ensures.1 in
    rw (p.1, p.2) (prepare-refused _ _ _ _ _ _ c.read.ensures _ c.in_err-z.was)

pub returns : goal.returns
returns c =
    prepare-left _ _ _ _ _ _ c.read.ensures _ c.in_ok-z.was _ c.work_bytes-need.ensures c.if-work-need.false c.prepare_lent-ended.result _ c.prepare_lent-ended.ensures _
    (grind (arith, all-cleared, c.clear.ensures, c.prepare_lent-ended.auto.memory))
