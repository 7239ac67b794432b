-- `wivulameno::tell` meets its contract.
-- Assumes nothing.
use mathlib.Core.Path.{sym, ap, ◌∙◌}
use mathlib.Core.List.{[], ◌∷◌}
use Prim.Native.Nat.{ℕ}
use Rattle.std.specs.Prelude.{Result}
use Rattle.refusal.specs.declared.Refusal.{Refusal}
use Rattle.refusal.specs.Outcome.{told}
use Rattle.wivulameno.specs.Interface.{status, values}
use Rattle.wivulameno.proofs.tell.Goals as goal

pub returns-in-Ok : goal.returns-in-Ok
unfolding status values
returns-in-Ok c = (
  sym (ap (λ (r : Result ℕ Refusal). status (told (λ k. k ∷ []) r)) c.in-Ok.is),
  sym (ap (λ (r : Result ℕ Refusal). values (told (λ k. k ∷ []) r) c.args.written.now) c.in-Ok.is),
)

pub returns-in-Err : goal.returns-in-Err
unfolding status values
returns-in-Err c = (
  c.into.ensures ∙ sym (ap (λ (r : Result ℕ Refusal). status (told (λ k. k ∷ []) r)) c.in-Err.is),
  sym (ap (λ (r : Result ℕ Refusal). values (told (λ k. k ∷ []) r) c.args.written.now) c.in-Err.is),
)
