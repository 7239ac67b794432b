-- The search for the next caller over flags.
-- Assumes nothing.
use mathlib.Core.Path.{◌≡◌, refl, sym, ◌∙◌}
use mathlib.Core.Bool.{Bool, true, false, cond}
use mathlib.Core.List.{List}
use mathlib.Core.Option.{Option, none, some}
use mathlib.Core.Logic.{⊎_elim}
use Prim.Native.Nat.{ℕ, zero, suc, ◌+◌, ◌-◌, ◌≤◌, ◌<◌}
use native.Mathlib.Omega.{arith}
use native.Mathlib.Numerals.{add-one}
use borrow.Author.Tests.{lt-ltb, le-ltb}
use Rattle.bits.proofs.Numbers.{lt-or-le}
use Rattle.schedule.specs.Schedule.{begin, numbers, cyclic, first_of, next}
use Rattle.schedule.specs.Callers.{last_served}
use Rattle.schedule.specs.Steps.{flagged}
use Rattle.schedule.specs.Steps.{number_of, next_caller, first_waiting}
use Rattle.schedule.proofs.Order.{or_else, first-append, numbers-first, Next, next-first}

module _ (flags : List Bool) (a e : ℕ) where
  -- one turn of the search
  first_step : a < e → first_waiting flags a e ≡ number_of (cond (flagged flags a) (some a) (first_of (flagged flags) (numbers (suc a) (e - suc a))))
  unfolding first_waiting first_of numbers
  first_step l = let n : e - a ≡ suc (e - suc a) = omega arith in rw n

  pub first-here : a < e → flagged flags a ≡ true → a ≡ first_waiting flags a e
  first-here l t = sym (first_step l ∙ rw t)

  pub first_on : a < e → flagged flags a ≡ false → first_waiting flags (a + 1) e ≡ first_waiting flags a e
  unfolding first_waiting
  first_on l t = sym (first_step l ∙ rw (t, add-one))

  pub first-none : e ≤ a → first_waiting flags a e ≡ 16
  unfolding first_waiting first_of numbers
  first-none l = let n : e - a ≡ 0 = omega arith in rw n

-- with whom to begin
pub begin-within : (b : ℕ) → b ≤ 16 → b ≡ begin (last_served b)
unfolding last_served
begin-within zero l = refl
begin-within (suc c) l = rw (lt-ltb c 16 l)

pub begin-beyond : (b : ℕ) → 16 < b → 0 ≡ begin (last_served b)
unfolding last_served
begin-beyond zero l = absurd (omega arith)
begin-beyond (suc c) l = rw (le-ltb c 16 (omega arith))

pub begin-le : (b : ℕ) → begin (last_served b) ≤ 16
begin-le b =
    ⊎_elim (λ (l : b < 17). omega (arith, begin-within b (omega arith))) (λ (l : 17 ≤ b). omega (arith, begin-beyond b l)) (lt-or-le b 17)

module _ (b : ℕ) (flags : List Bool) where
  abbrev from : ℕ
  from = begin (last_served b)

  -- the search in two parts
  next-parts : next_caller b flags
      ≡ number_of (or_else (first_of (flagged flags) (numbers from (16 - from))) (first_of (flagged flags) (numbers 0 from)))
  unfolding next_caller next cyclic
  next-parts = rw first-append

  pub caller-first : first_waiting flags from 16 < 16 → first_waiting flags from 16 ≡ next_caller b flags
  unfolding first_waiting
  caller-first h = sym (next-parts ∙ by-case (first_of (flagged flags) (numbers from (16 - from))) h)
    where
      by-case : (o : Option ℕ) → number_of o < 16 → number_of (or_else o (first_of (flagged flags) (numbers 0 from))) ≡ number_of o
      by-case none u = absurd (omega arith)
      by-case (some i) u = refl

  pub caller-second : 16 ≤ first_waiting flags from 16 → first_waiting flags 0 from ≡ next_caller b flags
  unfolding first_waiting
  caller-second h = let z : from - 0 ≡ from = omega arith in rw z (sym (next-parts ∙ by-case (first_of (flagged flags) (numbers from (16 - from))) refl h))
    where
      by-case : (o : Option ℕ) → first_of (flagged flags) (numbers from (16 - from)) ≡ o → 16 ≤ number_of o
          → number_of (or_else o (first_of (flagged flags) (numbers 0 from))) ≡ number_of (first_of (flagged flags) (numbers 0 from))
      by-case none e u = refl
      by-case (some i) e u = absurd (omega (arith, (numbers-first (flagged flags) from (16 - from) i e).high, begin-le b))

  next-within : (c : ℕ) → next 16 (last_served b) (flagged flags) ≡ some c → Next 16 from (flagged flags) c
  next-within c e = next-first 16 (last_served b) (flagged flags) c (begin-le b) e

  -- 16 says that nobody is next, and any other number who is
  pub nobody-next : 15 < next_caller b flags → next 16 (last_served b) (flagged flags) ≡ none
  unfolding next_caller
  nobody-next h = by-case (next 16 (last_served b) (flagged flags)) refl h
    where
      by-case : (o : Option ℕ) → next 16 (last_served b) (flagged flags) ≡ o → 15 < number_of o → o ≡ none
      by-case none e u = refl
      by-case (some c) e u = absurd (omega (arith, (next-within c e).within))

  pub somebody-next : next_caller b flags ≤ 15 → next 16 (last_served b) (flagged flags) ≡ some (next_caller b flags)
  unfolding next_caller
  somebody-next h = by-case (next 16 (last_served b) (flagged flags)) h
    where
      by-case : (o : Option ℕ) → number_of o ≤ 15 → o ≡ some (number_of o)
      by-case none u = absurd (omega arith)
      by-case (some c) u = refl

  -- the next caller waits
  pub next-waits : next_caller b flags ≤ 15 → flagged flags (next_caller b flags) ≡ true
  next-waits h = (next-within (next_caller b flags) (somebody-next h)).passes
