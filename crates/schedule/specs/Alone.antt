-- What order 9 promises of the verdicts: "the verdict is the one its proof gets alone, provided the same bytes are lent throughout".
-- The same bytes are here the same work in every call, on all jobs that the caller can have.
-- Assumes nothing.
use Rattle.std.specs.Prelude.{◌≡◌, true, cond, List, [], ◌∷◌, ℕ, zero, suc, eqb}
use Rattle.std.proofs.Math.Option.{Option, none, some}
use Rattle.schedule.specs.Schedule.{Outcome, goes_on, finished, Service, empty}
use Rattle.schedule.specs.History.{Event, enter, call, is_free, after_entry, after, services_from}

-- by cases on an outcome
abbrev pub by_outcome : {Job Verdict A : Type 0} → Outcome Job Verdict → (Job → A) → (Verdict → A) → A
by_outcome (goes_on j) f g = f j
by_outcome (finished v) f g = g v

-- a job alone: its verdict, if n services in a row finish it
unfoldable pub alone : {Job Verdict : Type 0} → (Job → Outcome Job Verdict) → ℕ → Job → Option Verdict
alone w zero j = none
alone w (suc n) j = by_outcome (w j) (alone w n) some

-- how many of these services are the caller's own
unfoldable pub own_in : {Verdict : Type 0} → ℕ → List (Service Verdict) → ℕ
own_in c [] = 0
own_in c (s ∷ ss) = cond (eqb s.caller c) (suc (own_in c ss)) (own_in c ss)

abbrev pub or_else : {A : Type 0} → Option A → Option A → Option A
or_else none b = b
or_else (some a) b = some a

-- the caller's first verdict in these services
unfoldable pub verdict_in : {Verdict : Type 0} → ℕ → List (Service Verdict) → Option Verdict
verdict_in c [] = none
verdict_in c (s ∷ ss) = cond (eqb s.caller c) (or_else s.verdict (verdict_in c ss)) (verdict_in c ss)

-- every call of these events does the work w on the caller's jobs, which are Own
unfoldable pub Same : {Job Verdict : Type 0} → (Job → Type 0) → ℕ → (Job → Outcome Job Verdict) → List (Event Job Verdict) → Type 0
Same Own c w [] = Unit {0}
Same Own c w (enter d j ∷ events) = Same Own c w events
Same {Job} Own c w (call quota work ∷ events) = ((j : Job) → Own j → work c j ≡ w j) × Same Own c w events

-- what Own says of a job it says of the job as it goes on
abbrev pub Keeps : {Job Verdict : Type 0} → (Job → Type 0) → (Job → Outcome Job Verdict) → Type 0
Keeps {Job} Own w = (j k : Job) → Own j → w j ≡ goes_on k → Own k

-- A caller enters, whatever was before, and is not refused; then come any events with the same work for it, of which the last may be the
-- call with its verdict. Its first verdict is the one that its job gets alone by as many services, none where these do not finish it.
abbrev pub Alone : Type 1
Alone =
    (Job Verdict : Type 0) (N : ℕ) (before later : List (Event Job Verdict)) (c : ℕ) (j : Job) (w : Job → Outcome Job Verdict) (Own : Job → Type 0) →
    is_free N c (after N empty before) ≡ true → Own j → Keeps Own w → Same Own c w later →
    verdict_in c (services_from N (after_entry N c j (after N empty before)) later)
    ≡ alone w (own_in c (services_from N (after_entry N c j (after N empty before)) later)) j
