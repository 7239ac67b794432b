-- What order 9 promises of the services of every history.
-- Assumes nothing.
use Rattle.std.specs.Prelude.{◌≡◌, Bool, true, false, ◌&&◌, ◌||◌, List, [], ◌∷◌, ◌++◌, ◌≢◌, ◌⊎◌, ℕ, ◌<◌, eqb, length}
use Rattle.schedule.specs.Schedule.{Service, Work, empty, waits, serve}
use Rattle.schedule.specs.History.{Event, after, services}

-- whether a caller waited at every one of these services
unfoldable pub waits_at : {Verdict : Type 0} → ℕ → List (Service Verdict) → Bool
waits_at c [] = true
waits_at c (s ∷ ss) = s.waited c && waits_at c ss

-- whether one of these services is the caller's own
unfoldable pub served_in : {Verdict : Type 0} → ℕ → List (Service Verdict) → Bool
served_in c [] = false
served_in c (s ∷ ss) = eqb s.caller c || served_in c ss

-- "a waiting caller gets an instance within 16 services": of any N services in a row at which a caller waits, one is its own
abbrev pub Within : Type 1
Within =
    (Job Verdict : Type 0) (N : ℕ) (events : List (Event Job Verdict)) (before row after : List (Service Verdict)) (c : ℕ) →
    services N events ≡ before ++ row ++ after → length row ≡ N → c < N →
    waits_at c row ≡ true → served_in c row ≡ true

-- the same of a caller that waits at the first of them: it waits on until it is served
abbrev pub Soon : Type 1
Soon =
    (Job Verdict : Type 0) (N : ℕ) (events : List (Event Job Verdict)) (before row after : List (Service Verdict)) (first : Service Verdict) (c : ℕ) →
    services N events ≡ before ++ (first ∷ row) ++ after → length (first ∷ row) ≡ N →
    first.waited c ≡ true → served_in c (first ∷ row) ≡ true

-- "between two services of one caller every other that waits all that while gets one":
-- all that while is at every service between the two, and at the second
abbrev pub Between : Type 1
Between =
    (Job Verdict : Type 0) (N : ℕ) (events : List (Event Job Verdict)) (before between after : List (Service Verdict))
    (first second : Service Verdict) (c : ℕ) →
    services N events ≡ before ++ (first ∷ between) ++ (second ∷ after) → first.caller ≡ second.caller → c ≢ first.caller →
    waits_at c (between ++ (second ∷ [])) ≡ true → served_in c between ≡ true

-- "until the quota is used or all are finished": after a call as many services were made as the quota says, or nobody waits
abbrev pub Until : Type 1
Until =
    (Job Verdict : Type 0) (N : ℕ) (before : List (Event Job Verdict)) (quota : ℕ) (work : Work Job Verdict) →
    (length (serve N work quota (after N empty before)).0 ≡ quota)
    ⊎ ((c : ℕ) → waits (serve N work quota (after N empty before)).1 c ≡ false)
