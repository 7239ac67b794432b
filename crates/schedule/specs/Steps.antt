-- What only the contracts of steps use: no definition of the paper stands here.
-- Assumes nothing.
use Rattle.std.specs.Prelude.{Bool, false, List, ℕ, ◌-◌, get_or}
use Rattle.std.proofs.Math.Option.{Option, none, some}
use Rattle.schedule.specs.Schedule.{numbers, first_of, next}
use Rattle.schedule.specs.Callers.{callers, last_served}

-- who waits, by flags
abbrev pub flagged : List Bool → ℕ → Bool
flagged flags c = get_or flags c false

-- a caller's number, 16 for none
abbrev pub number_of : Option ℕ → ℕ
number_of none = callers
number_of (some c) = c

-- the caller to be served next
unfoldable pub next_caller : ℕ → List Bool → ℕ
next_caller begin flags = number_of (next callers (last_served begin) (flagged flags))

-- the first flagged one of the callers from a up to e
unfoldable pub first_waiting : List Bool → ℕ → ℕ → ℕ
first_waiting flags a e = number_of (first_of (flagged flags) (numbers a (e - a)))
