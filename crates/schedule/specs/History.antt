-- Histories of a shared checker: "From the empty state on, each entry or call given the state that the last one left".
-- Assumes nothing.
use Rattle.std.specs.Prelude.{Bool, not, cond, ◌&&◌, List, [], ◌∷◌, ◌++◌, ℕ, ltb}
use Rattle.schedule.specs.Schedule.{State, Work, Service, waiting, empty, waits, put, serve}

-- an entry names a caller and brings its job; a call names a quota, and what a service of each job would give in it
pub data Event (Job Verdict : Type 0) : Type 0 where
  enter : ℕ → Job → Event Job Verdict
  call : ℕ → Work Job Verdict → Event Job Verdict

-- whether an entry is taken: "a caller beyond 15", N - 1 here, or one "already waiting" is not
unfoldable pub is_free : {Job : Type 0} → ℕ → ℕ → State Job → Bool
is_free N c s = ltb c N && not (waits s c)

-- an entry that is not taken changes nothing
unfoldable pub after_entry : {Job : Type 0} → ℕ → ℕ → Job → State Job → State Job
after_entry N c j s = cond (is_free N c s) (record { last = s.last; slot = put s.slot c (waiting j) }) s

-- the state after events
unfoldable pub after : {Job Verdict : Type 0} → ℕ → State Job → List (Event Job Verdict) → State Job
after N s [] = s
after N s (enter c j ∷ events) = after N (after_entry N c j s) events
after N s (call quota work ∷ events) = after N (serve N work quota s).1 events

-- all services from a state on, in their order
unfoldable pub services_from : {Job Verdict : Type 0} → ℕ → State Job → List (Event Job Verdict) → List (Service Verdict)
services_from N s [] = []
services_from N s (enter c j ∷ events) = services_from N (after_entry N c j s) events
services_from N s (call quota work ∷ events) = (serve N work quota s).0 ++ services_from N (serve N work quota s).1 events

-- all services of a history
abbrev pub services : {Job Verdict : Type 0} → ℕ → List (Event Job Verdict) → List (Service Verdict)
services N events = services_from N empty events
