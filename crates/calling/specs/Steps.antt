-- What only the contracts of steps use: no definition of the paper stands here.
-- Assumes nothing.
use Rattle.std.specs.Prelude.{◌≡◌, Bool, true, false, List, ℕ, length, replicate, Result, Ok, Err}
use Rattle.refusal.specs.declared.Refusal.{Refusal}
use Rattle.schedule.specs.Schedule.{State, Service}
use Rattle.shared.specs.declared.Places.{Places}
use Rattle.shared.specs.declared.Job.{Job}
use Rattle.shared.specs.declared.Shared.{Shared}
use Rattle.shared.specs.declared.Served.{Served}
use Rattle.shared.specs.declared.Served.TheVariants.{GoesOn, Finished}
use Rattle.shared.specs.Service.{entry_at}
use Rattle.shared.specs.StateSteps.{state_of, refusal_of}
use Rattle.shared.specs.Operations.{verdicts_of}
use Rattle.shared.specs.Steps.{ReadyAt, verdict_number}
use Rattle.calling.specs.declared.Kept.{Kept}
use Rattle.calling.specs.declared.Called.{Called}

-- the answer of the tests of the bytes at these places is what they say
pub record Keeps (k : Result Kept Refusal) (buffer : List ℕ) (p : Places) : Type 0 where
  pub entry : refusal_of k ≡ entry_at buffer p
  pub passes : (x : Kept) → k ≡ Ok x → ReadyAt x.shape buffer p x.table x.marks

-- an answer is that of these services, and of the state that they leave
abbrev pub Replies : Called → List (Service ℕ) × State Job → Type 0
Replies r x = (state_of r.state ≡ x.1) × ((r.count ≡ length x.0) × (r.verdicts ≡ verdicts_of x.0))

-- the state that a call leaves: a refused one leaves it as it was
abbrev pub state_told : Shared → Result Called Refusal → State Job
state_told s (Ok r) = state_of r.state
state_told s (Err k) = state_of s

-- how many instances a call has checked: a refused one none
abbrev pub count_told : Result Called Refusal → ℕ
count_told (Ok r) = r.count
count_told (Err k) = 0

-- the verdicts of a call: of a refused one 255 sixteen times
abbrev pub verdicts_told : Result Called Refusal → List ℕ
verdicts_told (Ok r) = r.verdicts
verdicts_told (Err k) = replicate 16 255

-- whether a caller waits on after a service
abbrev pub waits_on : Served → Bool
waits_on (GoesOn job) = true
waits_on (Finished verdict) = false

-- the proof in a caller's slot after a service; one that is finished stays as it was
abbrev pub job_after : Job → Served → Job
job_after old (GoesOn job) = job
job_after old (Finished verdict) = old

-- what is told of a caller after a service: its verdict, if it is finished
abbrev pub told_after : ℕ → Served → ℕ
told_after old (GoesOn job) = old
told_after old (Finished verdict) = verdict_number verdict
