-- `join::join_second` meets its contract: by what reading the second circuit answers.
-- Assumes nothing.
use Rattle.std.proofs.lemmas.Result.{err_from_is_err_and}
use Rattle.join.proofs.Outcomes.{read_as, second-refused}
use Rattle.join.proofs.join_second.Goals as goal

pub join_legal-requires : goal.join_legal-requires
join_legal-requires c =
    let x = c in
    (x.requires, read_as x.args.second.now _ _ c.in_ok-z.was c.read.ensures)

pub returns-in_err-z : goal.returns-in_err-z
returns-in_err-z c =
    let x = c in
    let p = err_from_is_err_and c.from_residual.result c.from_residual.ensures.1 in
    rw (p.1, p.2) (second-refused x.args.first.now x.args.second.now x.args.out.now x.args.y x.requires _ _ c.in_err-z.was c.read.ensures)
