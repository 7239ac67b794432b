-- What only the contracts of steps use: no definition of the paper stands here.
-- Assumes nothing.
use Rattle.std.specs.Prelude.{◌≡◌, true, List, ℕ, ◌<◌, length, ⊤, Result, Ok, Err}
use Rattle.refusal.specs.declared.Refusal.{Refusal}
use Rattle.refusal.specs.Refusal.{number_of}
use Rattle.schedule.specs.Schedule.{State, waiting, put, Outcome, goes_on, finished}
use Rattle.proof_tests.specs.declared.Shape.{Shape}
use Rattle.proof_tests.specs.Steps.{in_table, in_marks}
use Rattle.proof_tests.specs.Steps as steps
use Rattle.shared.specs.declared.Places.{Places}
use Rattle.shared.specs.declared.Job.{Job}
use Rattle.shared.specs.declared.Served.{Served}
use Rattle.shared.specs.declared.Served.TheVariants.{GoesOn, Finished}
use Rattle.shared.specs.Service.{at, all_inside, instance_of}

-- a verdict by its number: 0 where the proof is accepted
abbrev pub verdict_number : Result ⊤ Refusal → ℕ
verdict_number (Ok _) = 0
verdict_number (Err k) = number_of k

-- what a service gives
abbrev pub outcome_of : Served → Outcome Job ℕ
outcome_of (GoesOn job) = goes_on job
outcome_of (Finished verdict) = finished (verdict_number verdict)

-- what the tests leave in the table and the marks, where the bytes at these places pass; else a number that is none of the verdicts' 255
abbrev pub Looking : Result Shape Refusal → List ℕ → Places → List ℕ → List ℕ → Type 0
Looking (Err k) buffer p table marks = number_of k < 255
Looking (Ok f) buffer p table marks =
    steps.Ready (at buffer p.circuit) f (at buffer p.y) (at buffer p.message) (at buffer p.proof) (in_table table f) (in_marks marks f)

-- the state with a proof of caller c put in its slot
unfoldable pub seated : State Job → ℕ → Job → State Job
seated s c j = record { last = s.last; slot = put s.slot c (waiting j) }

-- a proof at these places that passes the tests, with its table and its marks in front of longer ones
pub record ReadyAt (f : Shape) (buffer : List ℕ) (p : Places) (table marks : List ℕ) : Type 0 where
  pub inside : all_inside buffer p ≡ true
  pub ready : steps.Ready (at buffer p.circuit) f (at buffer p.y) (at buffer p.message) (at buffer p.proof) (in_table table f) (in_marks marks f)
  pub entries : length table ≡ 512
  pub nodes : length marks ≡ 1024

-- the next instance of a proof by its places
unfoldable pub instance_at : List ℕ → Job → Outcome Job ℕ
instance_at buffer job =
    instance_of (at buffer job.places.circuit) (at buffer job.places.y) (at buffer job.places.message) (at buffer job.places.proof) job
