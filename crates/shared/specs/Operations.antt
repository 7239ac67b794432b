-- Entry and call of the shared checker, and histories of them (document 02, order 9).
-- Assumes nothing.
use Rattle.std.specs.Prelude.{Bool, cond, not, ◌&&◌, List, [], ◌∷◌, ◌++◌, ℕ, leb, ltb, length, replicate, set}
use Rattle.std.proofs.Math.Option.{Option, none, some}
use Rattle.schedule.specs.Schedule.{State, Service, empty, waits, next, unless_none, serve}
use Rattle.schedule.specs.History.{after_entry}
use Rattle.schedule.specs.Callers.{callers}
use Rattle.shared.specs.declared.Places.{Places}
use Rattle.shared.specs.declared.Job.{Job}
use Rattle.shared.specs.Service.{all_inside, entry_at, unless_refused, service_at, job_at}

-- "a work buffer .. under 6,436,864 bytes 6"
abbrev pub shared_work : ℕ
shared_work = 6436864

unfoldable pub long_work : List ℕ → Bool
long_work work = leb shared_work (length work)

-- the refusals of an entry: "26 a caller beyond 15, 27 a caller already waiting, both first"; "a place outside it gives 6 after 27, a work
-- buffer .. 6 after 27"; then those of the bytes
unfoldable pub enter_refusal : ℕ → Places → List ℕ → List ℕ → State Job → Option ℕ
enter_refusal c p buffer work s =
    cond (ltb c callers) (cond (waits s c) (some 27) (cond (all_inside buffer p) (cond (long_work work) (entry_at buffer p) (some 6)) (some 6))) (some 26)

-- the state after an entry: a refused one changes nothing
unfoldable pub entered : ℕ → Places → List ℕ → List ℕ → State Job → State Job
entered c p buffer work s = unless_refused (enter_refusal c p buffer work s) (λ k. s) (after_entry callers c (job_at p) s)

-- the work buffer "left as in order 7": untouched up to its test, all zero after every later ending
unfoldable pub work_after_entry : ℕ → Places → List ℕ → List ℕ → State Job → List ℕ
work_after_entry c p buffer work s =
    cond (ltb c callers && (not (waits s c) && (all_inside buffer p && long_work work))) (replicate (length work) 0) work

-- the refusals of a call: "28 no proof waiting, after 8 for the quota", which is 1..512; "a work buffer .. 6 after .. 28"
unfoldable pub call_refusal : ℕ → List ℕ → State Job → Option ℕ
call_refusal quota work s =
    cond (leb 1 quota && leb quota 512) (unless_none (next callers s.last (waits s)) (some 28) (λ c. cond (long_work work) none (some 6))) (some 8)

-- a call: its services, and the state that it leaves; a refused one makes none and changes nothing
unfoldable pub called : ℕ → List ℕ → List ℕ → State Job → List (Service ℕ) × State Job
called quota buffer work s = unless_refused (call_refusal quota work s) (λ k. ([], s)) (serve callers (λ c. service_at buffer) quota s)

-- "the answer holds these verdicts, each under its caller"
abbrev pub under : ℕ → Option ℕ → List ℕ → List ℕ
under c none verdicts = verdicts
under c (some v) verdicts = set verdicts c v

unfoldable pub noted : List ℕ → List (Service ℕ) → List ℕ
noted verdicts [] = verdicts
noted verdicts (s ∷ services) = noted (under s.caller s.verdict verdicts) services

-- the verdicts of a call's services: 255 under a caller that has none
abbrev pub verdicts_of : List (Service ℕ) → List ℕ
verdicts_of services = noted (replicate callers 255) services

-- the work buffer of a call "left as in order 7": untouched up to its test, which is the last that refuses, all zero after every later
-- ending
unfoldable pub work_after_call : ℕ → List ℕ → State Job → List ℕ
work_after_call quota work s = unless_refused (call_refusal quota work s) (λ k. work) (replicate (length work) 0)

-- an entry or a call, with the buffer and the work buffer that it is lent
pub data Lent : Type 0 where
  enter : ℕ → Places → List ℕ → List ℕ → Lent
  call : ℕ → List ℕ → List ℕ → Lent

-- "each entry or call given the state that the last one left"
unfoldable pub state_after : State Job → List Lent → State Job
state_after s [] = s
state_after s (enter c p buffer work ∷ events) = state_after (entered c p buffer work s) events
state_after s (call quota buffer work ∷ events) = state_after (called quota buffer work s).1 events

-- the services of all calls, in their order
unfoldable pub services_after : State Job → List Lent → List (Service ℕ)
services_after s [] = []
services_after s (enter c p buffer work ∷ events) = services_after (entered c p buffer work s) events
services_after s (call quota buffer work ∷ events) = (called quota buffer work s).0 ++ services_after (called quota buffer work s).1 events
