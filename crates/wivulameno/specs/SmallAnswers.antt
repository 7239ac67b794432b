-- What wv_small says (document 02, order 11): "at every later place the bench is told that the last has passed".
-- Assumes nothing.
use Rattle.std.specs.Prelude.{◌≡◌, List, ℕ, Option, Result}
use Rattle.refusal.specs.declared.Refusal.{Refusal}
use Rattle.small.specs.Answers.{paper, outcome}
use Rattle.small.specs.Small.{small_op}
use Rattle.wivulameno.specs.Interface.{status, length_told}

-- an answer that small gives
pub record GivenBySmall (a : Result (Option ℕ) Refusal) : Type 0 where
  pub inputs : ℕ
  pub outputs : ℕ
  pub gates : ℕ
  pub place : ℕ
  pub out : List ℕ
  pub left : List ℕ
  pub gives : outcome a left ≡ small_op inputs outputs gates place out

-- its status, and the length that it tells, where `lent` is what the lent number was
abbrev pub small_reported : List ℕ → Result (Option ℕ) Refusal → ℕ × List ℕ
small_reported lent a = (status (paper a), length_told (paper a) lent)

-- Theorem: wv_small says different things of different answers: a file's length is never 0
pub record DifferentSmall : Type 0 where
  pub statuses : (lent : List ℕ) (a b : Result (Option ℕ) Refusal) → GivenBySmall a → GivenBySmall b → small_reported lent a ≡ small_reported lent b → a ≡ b
