-- The code's state of the shared checker and its answers in the schedule's terms. Only the contracts of steps use them: the operations
-- for C have the state as bytes. Every struct is a state.
-- Assumes nothing.
use Rattle.std.specs.Prelude.{Bool, cond, List, ℕ, get_or, Result, Ok, Err}
use Rattle.std.proofs.Math.Option.{Option, none, some}
use Rattle.refusal.specs.declared.Refusal.{Refusal}
use Rattle.refusal.specs.Refusal.{number_of}
use Rattle.schedule.specs.Schedule.{Slot, idle, waiting, State}
use Rattle.schedule.specs.Callers.{last_served}
use Rattle.schedule.specs.Steps.{flagged}
use Rattle.shared.specs.declared.Job.{Job}
use Rattle.shared.specs.declared.Shared.{Shared}
use Rattle.shared.specs.Service.{job_at}

-- beyond the callers
abbrev pub nowhere : Job
nowhere = job_at (record { circuit = record { start = 0; len = 0 }; y = record { start = 0; len = 0 }; message = record { start = 0; len = 0 }; proof = record { start = 0; len = 0 } })

-- a flagged caller waits with its job
unfoldable pub slot_of : List Bool → List Job → ℕ → Slot Job
slot_of flags jobs c = cond (flagged flags c) (waiting (get_or jobs c nowhere)) idle

unfoldable pub state_of : Shared → State Job
state_of s = record { last = last_served s.begin; slot = slot_of s.waiting s.jobs }

-- a refusal by its number, or none
abbrev pub refusal_of : {A : Type 0} → Result A Refusal → Option ℕ
refusal_of (Ok _) = none
refusal_of (Err k) = some (number_of k)

-- the state that an answer leaves: a refused one leaves it as it was
abbrev pub state_left : Shared → Result Shared Refusal → State Job
state_left s (Ok t) = state_of t
state_left s (Err k) = state_of s
