-- Small schedules, computed: three callers whose jobs are numbers of instances.
-- Assumes nothing.
use Rattle.std.specs.Prelude.{◌≡◌, refl, cond, List, [], ◌∷◌, map, ℕ, ◌-◌, eqb}
use Rattle.schedule.specs.Schedule.{Work, Service, goes_on, finished, numbers, cyclic, first_of, next, put, serve}
use Rattle.schedule.specs.History.{Event, enter, call, is_free, after_entry, services_from, services}

-- one instance less, finished with the last
abbrev down : Work ℕ ℕ
down c j = cond (eqb j 1) (finished 0) (goes_on (j - 1))

-- whom the calls of a history serve, in their order
abbrev whom : List (Event ℕ ℕ) → List ℕ
whom events = map (λ (s : Service ℕ). s.caller) (services 3 events)

-- 2, 1 and 3 instances; the quota of 2 is used
first_call : whom (enter 0 2 ∷ enter 1 1 ∷ enter 2 3 ∷ call 2 down ∷ []) ≡ 0 ∷ 1 ∷ []
unfolding numbers cyclic first_of next put serve is_free after_entry services_from
first_call = refl

-- the next call begins after caller 1, which has entered again; it ends as nobody waits
second_call : whom (enter 0 2 ∷ enter 1 1 ∷ enter 2 3 ∷ call 2 down ∷ enter 1 1 ∷ call 9 down ∷ []) ≡ 0 ∷ 1 ∷ 2 ∷ 0 ∷ 1 ∷ 2 ∷ 2 ∷ []
unfolding numbers cyclic first_of next put serve is_free after_entry services_from
second_call = refl

-- entries of a caller that waits, and of one beyond the three, change nothing
refused_entries : whom (enter 2 1 ∷ enter 2 7 ∷ enter 3 1 ∷ call 9 down ∷ []) ≡ 2 ∷ []
unfolding numbers cyclic first_of next put serve is_free after_entry services_from
refused_entries = refl
