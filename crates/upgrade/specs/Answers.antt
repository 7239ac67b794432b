-- The answer of upgrade in the paper's terms.
-- Assumes nothing.
use Rattle.std.specs.Prelude.{List, [], ◌∷◌, ℕ, Result, Ok, Err}
use Rattle.refusal.specs.Refusal.{number_of}
use Rattle.refusal.specs.Outcome.{Answer, refusal_at, success, Outcome}
use Rattle.circuit.specs.declared.Fault.{Fault}

-- "success gives the file's length"; a refusal is told with its slot
abbrev pub paper : Result ℕ Fault → Answer
paper (Ok k) = success (k ∷ [])
paper (Err f) = refusal_at (number_of f.refusal) f.slot

-- the answer, and what the lent output then holds
abbrev pub outcome : Result ℕ Fault → List ℕ → Outcome
outcome r out = record { answer = paper r; left = out ∷ [] }
