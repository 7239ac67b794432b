-- `bristol::conversion::convert_gates` meets its contract: by the test of the gate lines.
-- Assumes nothing.
use mathlib.Core.Path.{sym, ap, ◌∙◌}
use Rattle.std.proofs.lemmas.Result.{err_from_is_err_and}
use Rattle.bristol_lines.specs.Steps.{verdict}
use Rattle.bristol.proofs.Writes.{convert-refused}
use Rattle.bristol.proofs.conversion.convert_gates.Goals as goal

pub check_gates-requires : goal.check_gates-requires
check_gates-requires c = c.requires

pub convert_good-requires : goal.convert_good-requires
convert_good-requires c =
    (c.requires, sym c.check_gates.ensures ∙ ap verdict c.in_ok-check_gates.was)

pub returns-in_err-check_gates : goal.returns-in_err-check_gates
returns-in_err-check_gates c =
    let p = err_from_is_err_and c.from_residual.result c.from_residual.ensures.1 in
    rw (p.1, p.2) (convert-refused _ _ _ (sym (ap verdict c.in_err-check_gates.was) ∙ c.check_gates.ensures))

pub returns : goal.returns
returns c = c.convert_good.ensures
