-- The answer of small in the paper's terms.
-- Assumes nothing.
use Rattle.std.specs.Prelude.{List, [], ◌∷◌, ℕ, Option, Some, None, Result}
use Rattle.refusal.specs.declared.Refusal.{Refusal}
use Rattle.refusal.specs.Outcome.{Answer, told, Outcome}

-- "success gives the file's length"; that "the last has passed" is a success that has no length
abbrev pub lengths : Option ℕ → List ℕ
lengths (Some k) = k ∷ []
lengths None = []

abbrev pub paper : Result (Option ℕ) Refusal → Answer
paper r = told lengths r

-- the answer, and what the lent output then holds
abbrev pub outcome : Result (Option ℕ) Refusal → List ℕ → Outcome
outcome r out = record { answer = paper r; left = out ∷ [] }
