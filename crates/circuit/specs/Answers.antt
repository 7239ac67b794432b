-- The answers of read and evaluate in the paper's terms: a refusal's number, for read with the slot that it tells, or the values of
-- a success.
-- Assumes nothing.
use Rattle.std.specs.Prelude.{List, [], ◌∷◌, ℕ, ⊤, Result, Ok, Err}
use Rattle.refusal.specs.declared.Refusal.{Refusal}
use Rattle.refusal.specs.Refusal.{number_of}
use Rattle.refusal.specs.Outcome.{Answer, refusal_at, success, told, Outcome}
use Rattle.circuit.specs.declared.Fault.{Fault}
use Rattle.circuit.specs.declared.Sizes.{Sizes}

-- "Success gives I, O, G, A"; a refusal is told with its slot
abbrev pub read_paper : Result Sizes Fault → Answer
read_paper (Ok z) = success (z.inputs ∷ z.outputs ∷ z.gates ∷ z.ands ∷ [])
read_paper (Err f) = refusal_at (number_of f.refusal) f.slot

-- a success of evaluate has no values
abbrev pub evaluate_paper : Result ⊤ Refusal → Answer
evaluate_paper r = told (λ _. []) r

-- the answer of evaluate, and what its output buffer then holds
abbrev pub outcome : Result ⊤ Refusal → List ℕ → Outcome
outcome r y = record { answer = evaluate_paper r; left = y ∷ [] }
