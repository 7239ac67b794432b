-- `wivulameno::status` meets its contract.
-- Assumes nothing.
use mathlib.Core.Path.{sym, ap, ◌∙◌}
use mathlib.Core.List.{[]}
use Rattle.std.specs.Prelude.{⊤, Result}
use Rattle.refusal.specs.declared.Refusal.{Refusal}
use Rattle.refusal.specs.Outcome.{told}
use Rattle.wivulameno.specs.Interface.{status}
use Rattle.wivulameno.proofs.status.Goals as goal

pub returns-in-Ok : goal.returns-in-Ok
unfolding status
returns-in-Ok c = sym (ap (λ (r : Result ⊤ Refusal). status (told (λ _. []) r)) c.in-Ok.is)

pub returns-in-Err : goal.returns-in-Err
unfolding status
returns-in-Err c = c.into.ensures ∙ sym (ap (λ (r : Result ⊤ Refusal). status (told (λ _. []) r)) c.in-Err.is)
