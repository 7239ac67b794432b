-- The answer of check in the paper's terms.
-- Assumes nothing.
use Rattle.std.specs.Prelude.{[], ⊤, Result}
use Rattle.refusal.specs.declared.Refusal.{Refusal}
use Rattle.refusal.specs.Outcome as outcomes
use Rattle.refusal.specs.Outcome.{told, Outcome}

-- an accepted proof has no values
abbrev pub paper : Result ⊤ Refusal → outcomes.Answer
paper r = told (λ _. []) r

-- the answer; check is lent no buffer to fill but its work buffer
abbrev pub outcome : Result ⊤ Refusal → Outcome
outcome r = record { answer = paper r; left = [] }
