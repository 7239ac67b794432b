-- The answers of the operations in the paper's terms.
-- Assumes nothing.
use Rattle.std.specs.Prelude.{List, [], ℕ, ⊤, Result}
use Rattle.refusal.specs.declared.Refusal.{Refusal}
use Rattle.refusal.specs.Outcome as outcomes
use Rattle.refusal.specs.Outcome.{told, Outcome}

-- a success has no values
abbrev pub paper : Result ⊤ Refusal → outcomes.Answer
paper r = told (λ _. []) r

-- the answer, and what the lent output buffers then hold
abbrev pub outcome : Result ⊤ Refusal → List (List ℕ) → Outcome
outcome r buffers = record { answer = paper r; left = buffers }
