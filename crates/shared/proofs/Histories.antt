-- A history of the shared checker is one of the schedule: what is refused for its numbers or its bytes is left out of it.
-- Assumes nothing.
use mathlib.Core.Path.{◌≡◌, refl, sym, ap, ◌∙◌}
use mathlib.Core.Bool.{Bool, true, false, cond, not, ◌&&◌}
use mathlib.Core.List.{List, [], ◌∷◌, ◌++◌}
use mathlib.Core.Option.{Option, none, some}
use Prim.Native.Nat.{ℕ, zero, suc}
use lib.Dec.{leb, ltb}
use Rattle.schedule.specs.Schedule.{State, Work, Service, waits, next, unless_none, serve}
use Rattle.schedule.specs.History as history
use Rattle.schedule.specs.History.{Event, is_free, after_entry, after, services_from}
use Rattle.shared.specs.declared.Places.{Places}
use Rattle.shared.specs.declared.Job.{Job}
use Rattle.shared.specs.Service.{all_inside, entry_at, unless_refused, service_at, job_at}
use Rattle.shared.specs.Operations.{long_work, enter_refusal, entered, call_refusal, called, Lent, enter, call, state_after, services_after}

-- whether there is no refusal
abbrev pub is_none : Option ℕ → Bool
is_none none = true
is_none (some k) = false

-- an entry that is refused neither for its places and its work buffer nor for its bytes
abbrev pub takes : Places → List ℕ → List ℕ → Bool
takes p buffer work = all_inside buffer p && (long_work work && is_none (entry_at buffer p))

-- a call that is refused neither for its quota nor for its work buffer
abbrev pub makes : ℕ → List ℕ → Bool
makes quota work = (leb 1 quota && leb quota 512) && long_work work

-- the schedule's history
unfoldable pub planned : List Lent → List (Event Job ℕ)
planned [] = []
planned (enter c p buffer work ∷ events) = cond (takes p buffer work) (history.enter c (job_at p) ∷ planned events) (planned events)
planned (call quota buffer work ∷ events) = cond (makes quota work) (history.call quota (λ c. service_at buffer) ∷ planned events) (planned events)

-- an entry, by its tests
entry-cases : (b1 b2 i l : Bool) (e : Option ℕ) (s x : State Job)
    → unless_refused (cond b1 (cond b2 (some 27) (cond i (cond l e (some 6)) (some 6))) (some 26)) (λ k. s) (cond (b1 && not b2) x s)
    ≡ cond (i && (l && is_none e)) (cond (b1 && not b2) x s) s
entry-cases false b2 false l e s x = refl
entry-cases false b2 true false e s x = refl
entry-cases false b2 true true none s x = refl
entry-cases false b2 true true (some k) s x = refl
entry-cases true true false l e s x = refl
entry-cases true true true false e s x = refl
entry-cases true true true true none s x = refl
entry-cases true true true true (some k) s x = refl
entry-cases true false false l e s x = refl
entry-cases true false true false e s x = refl
entry-cases true false true true none s x = refl
entry-cases true false true true (some k) s x = refl

pub entered-is : (c : ℕ) (p : Places) (buffer work : List ℕ) (s : State Job)
    → entered c p buffer work s ≡ cond (takes p buffer work) (after_entry 16 c (job_at p) s) s
unfolding entered enter_refusal after_entry is_free
entered-is c p buffer work s = entry-cases (ltb c 16) (waits s c) (all_inside buffer p) (long_work work) (entry_at buffer p) s _

-- a call where nobody waits
pub serve-nobody : (work : Work Job ℕ) (quota : ℕ) (s : State Job) → next 16 s.last (waits s) ≡ none → serve 16 work quota s ≡ ([], s)
unfolding serve
serve-nobody work zero s e = refl
serve-nobody work (suc quota) s e = rw e

-- a call, by its tests
call-cases : (q l : Bool) (o : Option ℕ) (s : State Job) (r : List (Service ℕ) × State Job) → (o ≡ none → r ≡ ([], s))
    → unless_refused (cond q (unless_none o (some 28) (λ c. cond l none (some 6))) (some 8)) (λ k. ([], s)) r ≡ cond (q && l) r ([], s)
call-cases false l o s r h = refl
call-cases true false none s r h = refl
call-cases true true none s r h = sym (h refl)
call-cases true false (some c) s r h = refl
call-cases true true (some c) s r h = refl

pub called_is : (quota : ℕ) (buffer work : List ℕ) (s : State Job)
    → called quota buffer work s ≡ cond (makes quota work) (serve 16 (λ c. service_at buffer) quota s) ([], s)
unfolding called call_refusal
called_is quota buffer work s =
    call-cases (leb 1 quota && leb quota 512) (long_work work) (next 16 s.last (waits s)) s (serve 16 (λ c. service_at buffer) quota s)
    (serve-nobody (λ c. service_at buffer) quota s)

-- an event that is left out, or not
state-entry : (t : Bool) (c : ℕ) (j : Job) (s u : State Job) (events : List (Event Job ℕ)) → u ≡ cond t (after_entry 16 c j s) s
    → after 16 u events ≡ after 16 s (cond t (history.enter c j ∷ events) events)
unfolding after
state-entry true c j s u events e = ap (λ (x : State Job). after 16 x events) e
state-entry false c j s u events e = ap (λ (x : State Job). after 16 x events) e

services-entry : (t : Bool) (c : ℕ) (j : Job) (s u : State Job) (events : List (Event Job ℕ)) → u ≡ cond t (after_entry 16 c j s) s
    → services_from 16 u events ≡ services_from 16 s (cond t (history.enter c j ∷ events) events)
unfolding services_from
services-entry true c j s u events e = ap (λ (x : State Job). services_from 16 x events) e
services-entry false c j s u events e = ap (λ (x : State Job). services_from 16 x events) e

state-call : (t : Bool) (quota : ℕ) (work : Work Job ℕ) (s : State Job) (r : List (Service ℕ) × State Job) (events : List (Event Job ℕ))
    → r ≡ cond t (serve 16 work quota s) ([], s) → after 16 r.1 events ≡ after 16 s (cond t (history.call quota work ∷ events) events)
unfolding after
state-call true quota work s r events e = ap (λ (x : List (Service ℕ) × State Job). after 16 x.1 events) e
state-call false quota work s r events e = ap (λ (x : List (Service ℕ) × State Job). after 16 x.1 events) e

services-call : (t : Bool) (quota : ℕ) (work : Work Job ℕ) (s : State Job) (r : List (Service ℕ) × State Job) (events : List (Event Job ℕ))
    → r ≡ cond t (serve 16 work quota s) ([], s)
    → r.0 ++ services_from 16 r.1 events ≡ services_from 16 s (cond t (history.call quota work ∷ events) events)
unfolding services_from
services-call true quota work s r events e = ap (λ (x : List (Service ℕ) × State Job). x.0 ++ services_from 16 x.1 events) e
services-call false quota work s r events e = ap (λ (x : List (Service ℕ) × State Job). x.0 ++ services_from 16 x.1 events) e

-- the state after a history, and its services, are those of the schedule
pub state-planned : (s : State Job) (events : List Lent) → state_after s events ≡ after 16 s (planned events)
unfolding state_after planned after
state-planned s [] = refl
state-planned s (enter c p buffer work ∷ events) =
    state-planned (entered c p buffer work s) events
    ∙ state-entry (takes p buffer work) c (job_at p) s (entered c p buffer work s) (planned events) (entered-is c p buffer work s)
state-planned s (call quota buffer work ∷ events) =
    state-planned (called quota buffer work s).1 events
    ∙ state-call (makes quota work) quota (λ c. service_at buffer) s (called quota buffer work s) (planned events) (called_is quota buffer work s)

pub services-planned : (s : State Job) (events : List Lent) → services_after s events ≡ services_from 16 s (planned events)
unfolding services_after planned services_from
services-planned s [] = refl
services-planned s (enter c p buffer work ∷ events) =
    services-planned (entered c p buffer work s) events
    ∙ services-entry (takes p buffer work) c (job_at p) s (entered c p buffer work s) (planned events) (entered-is c p buffer work s)
services-planned s (call quota buffer work ∷ events) =
    ap (λ (x : List (Service ℕ)). (called quota buffer work s).0 ++ x) (services-planned (called quota buffer work s).1 events)
    ∙ services-call (makes quota work) quota (λ c. service_at buffer) s (called quota buffer work s) (planned events) (called_is quota buffer work s)
