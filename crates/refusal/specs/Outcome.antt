-- The outcome of an operation, in one form for all of them. Document 01, "Each operation's refusals, in order":
-- "A refusal returns its number alone, and all lent buffers hold what they held." By document 02, order 2, read tells a slot with it.
-- Assumes nothing.
use Rattle.std.specs.Prelude.{Bool, cond, List, [], ℕ, Result, Ok, Err}
use Rattle.refusal.specs.declared.Refusal.{Refusal}
use Rattle.refusal.specs.Refusal.{number_of}

-- an answer in the paper's terms: a refusal, by its number and the slot that it tells; or the values of a success
pub data Answer : Type 0 where
  refusal_at : ℕ → ℕ → Answer
  success : List ℕ → Answer

-- a refusal by "its number alone": the slot is 0 where none is told
abbrev pub refusal : ℕ → Answer
refusal k = refusal_at k 0

-- the answer of an operation in the paper's terms: the values of a success, or a refusal by its number
abbrev pub told : {A : Type 0} → (A → List ℕ) → Result A Refusal → Answer
told values (Ok a) = success (values a)
told values (Err k) = refusal (number_of k)

-- the answer of an operation, and what each lent output buffer then holds, in the interface's order
pub record Outcome : Type 0 where
  pub answer : Answer
  pub left : List (List ℕ)

-- refusal k, "and all lent buffers hold what they held"
abbrev pub refuses : ℕ → List (List ℕ) → Outcome
refuses k lent = record { answer = refusal k; left = lent }

-- a success without values, which leaves this in the buffers
abbrev pub done : List (List ℕ) → Outcome
done filled = record { answer = success []; left = filled }

-- the rest of the operation where the test passes, else refusal k, "and all lent buffers hold what they held"
abbrev pub unless : Bool → ℕ → List (List ℕ) → Outcome → Outcome
unless test k lent rest = cond test rest (refuses k lent)
