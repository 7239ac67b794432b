-- `bristol::walk::check_line` meets its contract: by cases of the gate line.
-- Assumes nothing.
use mathlib.Core.Path.{sym, ap, ◌∙◌}
use Rattle.std.proofs.lemmas.Result.{err_from_is_err_and}
use Rattle.bristol_lines.specs.Steps.{line_refusal}
use Rattle.bristol.proofs.walk.check_line.Goals as goal

pub fits-requires : goal.fits-requires
fits-requires c =
    let p = c.requires in
    (p.0, (p.1.few_inputs, p.1.few_gates))

pub returns-in_err-gate : goal.returns-in_err-gate
unfolding line_refusal
returns-in_err-gate c =
    let x = c.args in
    let p = err_from_is_err_and c.from_residual.result c.from_residual.ensures.1 in
    rw (p.1, p.2) (ap (line_refusal x.z.inputs x.z.gates x.flags.now) (sym c.next_gate-gate.ensures.read ∙ c.in_err-gate.was))

pub returns-then-not-fits : goal.returns-then-not-fits
unfolding line_refusal
returns-then-not-fits c =
    let x = c.args in
    ap (line_refusal x.z.inputs x.z.gates x.flags.now) (sym c.next_gate-gate.ensures.read ∙ c.in_ok-gate.was)
    ∙ rw (sym c.fits.ensures ∙ c.if-not-fits.true)

pub returns : goal.returns
returns c =
    record {
      gate = _;
      read = sym c.next_gate-gate.ensures.read ∙ c.in_ok-gate.was;
      fits = sym c.fits.ensures ∙ c.if-not-fits.false;
      wire = c.output_wire.ensures;
      rest = c.next_gate-gate.ensures.rest;
    }
