-- What order 9 promises, over every list of entries and calls from the empty state, each given the state that the last one left.
-- Assumes nothing.
use Rattle.std.specs.Prelude.{◌≡◌, true, List, [], ◌∷◌, ◌++◌, ◌≢◌, ◌⊎◌, ℕ, ◌≤◌, ◌<◌, length, get_or}
use Rattle.std.proofs.Math.Option.{Option, none, some}
use Rattle.circuit.specs.File.{circuit_of}
use Rattle.proof.specs.File.{header_m}
use Rattle.circuit.specs.Operations.{work_bytes}
use Rattle.proof.specs.Check.{check_op}
use Rattle.schedule.specs.Schedule.{State, Service, empty}
use Rattle.schedule.specs.Fair.{waits_at, served_in}
use Rattle.schedule.specs.Alone.{own_in, verdict_in}
use Rattle.shared.specs.declared.Place.{Place}
use Rattle.shared.specs.declared.Places.{Places}
use Rattle.shared.specs.declared.Job.{Job}
use Rattle.shared.specs.Service.{at, all_inside, number}
use Rattle.shared.specs.Operations.{enter_refusal, entered, called, verdicts_of, Lent, enter, call, state_after, services_after}

-- the same bytes at these places
pub record SameAt (p : Places) (buffer other : List ℕ) : Type 0 where
  pub inside : all_inside other p ≡ true
  pub circuit : at other p.circuit ≡ at buffer p.circuit
  pub y : at other p.y ≡ at buffer p.y
  pub message : at other p.message ≡ at buffer p.message
  pub proof : at other p.proof ≡ at buffer p.proof

-- "provided the same bytes are lent throughout": every call of these events lends them
unfoldable pub Throughout : Places → List ℕ → List Lent → Type 0
Throughout p buffer [] = Unit {0}
Throughout p buffer (enter c q other work ∷ events) = Throughout p buffer events
Throughout p buffer (call quota other work ∷ events) = SameAt p buffer other × Throughout p buffer events

-- "the one its proof gets alone": the number of the answer of check to the bytes at these places, with a work buffer of its own
abbrev pub verdict_alone : List ℕ → Places → List ℕ → ℕ
verdict_alone buffer p own = number (check_op (at buffer p.circuit) (at buffer p.y) (at buffer p.message) (at buffer p.proof) own).answer

-- that work buffer is as long as check asks for
abbrev pub LongEnough : List ℕ → Places → List ℕ → Type 0
LongEnough buffer p own = work_bytes (circuit_of (at buffer p.circuit)) ≤ length own

-- a caller's verdict as the answer of a call holds it
abbrev pub held_as : Option ℕ → ℕ
held_as none = 255
held_as (some v) = v

pub record SharedChecker : Type 0 where
  -- "a waiting caller gets an instance within 16 services"
  pub within : (events : List Lent) (before row after : List (Service ℕ)) (c : ℕ) → services_after empty events ≡ before ++ row ++ after
      → length row ≡ 16 → c < 16 → waits_at c row ≡ true → served_in c row ≡ true
  -- the same of a caller that waits at the first of them: it waits on until it is served
  pub soon : (events : List Lent) (before row after : List (Service ℕ)) (first : Service ℕ) (c : ℕ)
      → services_after empty events ≡ before ++ (first ∷ row) ++ after → length (first ∷ row) ≡ 16 → first.waited c ≡ true
      → served_in c (first ∷ row) ≡ true
  -- "between two services of one caller every other that waits all that while gets one"
  pub between : (events : List Lent) (before between after : List (Service ℕ)) (first second : Service ℕ) (c : ℕ)
      → services_after empty events ≡ before ++ (first ∷ between) ++ (second ∷ after) → first.caller ≡ second.caller → c ≢ first.caller
      → waits_at c (between ++ (second ∷ [])) ≡ true → served_in c between ≡ true
  -- "and the verdict is the one its proof gets alone, provided the same bytes are lent throughout": if it has one
  pub alone : (before later : List Lent) (c : ℕ) (p : Places) (buffer work own : List ℕ) → ((i : ℕ) → get_or buffer i 0 < 256) → LongEnough buffer p own
      → enter_refusal c p buffer work (state_after empty before) ≡ none → Throughout p buffer later
      → (verdict_in c (services_after (entered c p buffer work (state_after empty before)) later) ≡ none)
      ⊎ (verdict_in c (services_after (entered c p buffer work (state_after empty before)) later)
      ≡ some (verdict_alone buffer p own))
  -- and it has one by the time that it has had as many services as its header says instances
  pub ends : (before later : List Lent) (c : ℕ) (p : Places) (buffer work own : List ℕ) → ((i : ℕ) → get_or buffer i 0 < 256) → LongEnough buffer p own
      → enter_refusal c p buffer work (state_after empty before) ≡ none → Throughout p buffer later
      → header_m (at buffer p.proof) ≤ own_in c (services_after (entered c p buffer work (state_after empty before)) later)
      → verdict_in c (services_after (entered c p buffer work (state_after empty before)) later)
      ≡ some (verdict_alone buffer p own)
  -- "the answer holds these verdicts, each under its caller": the verdict of its proof in that call
  pub told : (quota : ℕ) (buffer work : List ℕ) (s : State Job) (c : ℕ) → c < 16
      → get_or (verdicts_of (called quota buffer work s).0) c 255 ≡ held_as (verdict_in c (called quota buffer work s).0)
