-- `evaluation::evaluate` meets its contract.
-- Assumes nothing.
use mathlib.Core.Path.{sym, ◌∙◌}
use Rattle.std.proofs.lemmas.Result.{err_from_is_err_and}
use Rattle.circuit.proofs.Outcomes.{legal-sizes, evaluate-refused, evaluate-read}
use Rattle.evaluation.proofs.evaluate.Goals as goal

pub evaluate_lent-requires : goal.evaluate_lent-requires
evaluate_lent-requires c = legal-sizes _ _ _ c.in_ok-z.was c.read.ensures

pub returns-in_err-z : goal.returns-in_err-z
returns-in_err-z c =
    let p = err_from_is_err_and c.from_residual.result c.from_residual.ensures.1 in
    rw (p.1, p.2) (evaluate-refused _ _ _ _ _ c.in_err-z.was c.read.ensures)

pub returns : goal.returns
returns c =
    c.evaluate_lent.ensures ∙ sym (evaluate-read _ _ _ c.in_ok-z.was c.read.ensures _ _)
