-- The answers of an entry and of a call in the paper's terms.
-- Assumes nothing.
use Rattle.std.specs.Prelude.{[], ◌∷◌, ℕ, ⊤, Result}
use Rattle.refusal.specs.declared.Refusal.{Refusal}
use Rattle.refusal.specs.Outcome.{Answer, told}

abbrev pub enter_paper : Result ⊤ Refusal → Answer
enter_paper r = told (λ _. []) r

-- "the answer counts the instances checked in that call"
abbrev pub check_paper : Result ℕ Refusal → Answer
check_paper r = told (λ n. n ∷ []) r
