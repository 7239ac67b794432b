-- `bristol_lines::gates::line_gate` meets its contract: by the kind, then by the form.
-- Assumes nothing.
use mathlib.Core.Path.{sym, ap, ◌∙◌}
use Rattle.bristol_lines.specs.Rules.{is_known}
use Rattle.bristol_lines.specs.Steps.{gate_from}
use Rattle.bristol_lines.specs.declared.Kind.{Kind}
use Rattle.bristol_lines.proofs.Lined.{known_kind, gate-unfielded, gate-unended, gate-good}
use Rattle.bristol_lines.proofs.gates.line_gate.Goals as goal

pub returns-in_default-read_fields : goal.returns-in_default-read_fields
returns-in_default-read_fields c =
    gate-unfielded _ (sym (ap is_known c.line_kind-kind.ensures) ∙ known_kind _ c.in_default.not-Other) c.in_default-read_fields.ensures

pub returns-then-not-ended : goal.returns-then-not-ended
returns-then-not-ended c =
    gate-unended _ (sym (ap is_known c.line_kind-kind.ensures) ∙ known_kind _ c.in_default.not-Other) c.if-not-ended.true

pub returns : goal.returns
returns c =
    c.gate_of.ensures
    ∙ ap (λ (k : Kind). gate_from k c.in-Some.f.count c.in-Some.f.numbers) c.line_kind-kind.ensures
    ∙ gate-good _ (sym (ap is_known c.line_kind-kind.ensures) ∙ known_kind _ c.in_default.not-Other) _ c.in-Some.ensures c.if-not-ended.false
