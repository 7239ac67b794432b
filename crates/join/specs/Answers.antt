-- The answer of join in the paper's terms.
-- Assumes nothing.
use Rattle.std.specs.Prelude.{List, [], ◌∷◌, ℕ, Result}
use Rattle.refusal.specs.declared.Refusal.{Refusal}
use Rattle.refusal.specs.Outcome.{Answer, told, Outcome}

-- "success gives the file's length"
abbrev pub paper : Result ℕ Refusal → Answer
paper r = told (λ k. k ∷ []) r

-- the answer, and what the lent output then holds
abbrev pub outcome : Result ℕ Refusal → List ℕ → Outcome
outcome r out = record { answer = paper r; left = out ∷ [] }
