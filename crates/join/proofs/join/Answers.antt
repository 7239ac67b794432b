-- `join::join` meets its contract: by what reading the first circuit answers.
-- Assumes nothing.
use Rattle.std.proofs.lemmas.Result.{err_from_is_err_and}
use Rattle.join.proofs.Outcomes.{read_as, first-refused}
use Rattle.join.proofs.join.Goals as goal

pub join_second-requires : goal.join_second-requires
join_second-requires c =
    let x = c in
    read_as x.args.first.now _ _ c.in_ok-y.was c.read.ensures

pub returns-in_err-y : goal.returns-in_err-y
returns-in_err-y c =
    let x = c in
    let p = err_from_is_err_and c.from_residual.result c.from_residual.ensures.1 in
    rw (p.1, p.2) (first-refused x.args.first.now x.args.second.now x.args.out.now _ _ c.in_err-y.was c.read.ensures)
