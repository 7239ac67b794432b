-- `bristol::conversion::convert` meets its contract: by the header.
-- Assumes nothing.
use mathlib.Core.Path.{sym, ap, ◌∙◌}
use Rattle.std.proofs.lemmas.Result.{err_from_is_err_and}
use Rattle.bristol_lines.specs.Rules.{Reading, gates_below, read_text}
use Rattle.bristol_lines.specs.Steps.{gates_at}
use Rattle.bristol.specs.Operations.{conversion, convert_op}
use Rattle.bristol.proofs.conversion.convert.Goals as goal

pub convert_gates-requires : goal.convert_gates-requires
convert_gates-requires c =
    c.in_ok-z.ensures.few

pub returns-in_err-z : goal.returns-in_err-z
unfolding convert_op conversion read_text
returns-in_err-z c =
    let p = err_from_is_err_and c.from_residual.result c.from_residual.ensures.1 in
    rw (p.1, p.2)
    (sym (ap (λ (r : Reading). conversion r c.args.out.now) (c.in_err-z.ensures gates_below)))

pub returns : goal.returns
unfolding convert_op read_text gates_at
returns c =
    c.convert_gates.ensures
    ∙ sym (ap (λ (r : Reading). conversion r c.args.out.now) (c.in_ok-z.ensures.same gates_below))
