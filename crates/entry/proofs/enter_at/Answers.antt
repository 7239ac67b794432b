-- `entry::enter_at` meets its contract.
-- Assumes nothing.
use mathlib.Core.Path.{refl, sym, ap, ◌∙◌}
use Rattle.std.proofs.lemmas.Result.{err_from_is_err_and}
use Rattle.shared.specs.Service.{entry_at}
use Rattle.shared.specs.StateSteps.{state_of, refusal_of}
use Rattle.shared.specs.Steps.{seated}
use Rattle.shared.proofs.Slots.{at-refused, at-taken}
use Rattle.entry.proofs.enter_at.Goals as goal

pub look-requires : goal.look-requires
look-requires c = (c.requires.1, (refl, refl))

pub seat-requires : goal.seat-requires
seat-requires c = c.requires.0

pub returns-in_err-_shape : goal.returns-in_err-_shape
returns-in_err-_shape c =
    let x = c.args in
    let p = err_from_is_err_and c.from_residual.result c.from_residual.ensures.1 in record {
      number_value = rw (p.1, p.2) (at-refused (entry_at x.buffer.now x.places) _ _ (state_of x.s) _ _ (sym (ap refusal_of c.in_err-_shape.was) ∙ c.look.ensures.result_value) refl refl);
      work_after = c.clear.ensures;
    }

pub returns : goal.returns
returns c =
    let x = c.args in record {
      number_value = at-taken (entry_at x.buffer.now x.places) _ (state_of x.s) _ _ (sym (ap refusal_of c.in_ok-_shape.was) ∙ c.look.ensures.result_value) refl (c.seat.ensures ∙ ap (seated (state_of x.s) x.i) c.job_at.ensures);
      work_after = c.clear.ensures;
    }
