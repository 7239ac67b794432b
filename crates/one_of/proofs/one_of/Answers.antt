-- `one_of::one_of` meets its contract: by what reading answers.
-- Assumes nothing.
use mathlib.Core.Path.{sym, ◌∙◌}
use Rattle.std.proofs.lemmas.Result.{err_from_is_err_and}
use Rattle.one_of.proofs.Outcomes.{refused-first, read_first, lent-legal}
use Rattle.one_of.proofs.one_of.Goals as goal

pub one_of_legal-requires : goal.one_of_legal-requires
one_of_legal-requires c =
    let x = c in
    lent-legal x.args.s.now x.args.list.now x.args.out.now _ _ c.in_ok-z.was c.read.ensures

pub returns-in_err-z : goal.returns-in_err-z
returns-in_err-z c =
    let x = c in
    let p = err_from_is_err_and c.from_residual.result c.from_residual.ensures.1 in
    rw (p.1, p.2) (refused-first x.args.s.now x.args.list.now x.args.out.now _ _ c.in_err-z.was c.read.ensures)

pub returns : goal.returns
returns c =
    let x = c in
    c.one_of_legal.ensures
    ∙ sym (read_first x.args.s.now x.args.list.now x.args.out.now _ _ c.in_ok-z.was c.read.ensures)
