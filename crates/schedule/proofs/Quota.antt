-- A call ends as its quota is used or nobody waits.
-- Assumes nothing.
use mathlib.Core.Path.{◌≡◌, refl, sym, ap, ◌∙◌}
use mathlib.Core.Bool.{Bool, true, false}
use mathlib.Core.List.{List, [], ◌∷◌}
use mathlib.Core.Option.{Option, none, some}
use mathlib.Core.Logic.{◌⊎◌, inl, inr, ⊎_elim}
use Prim.Native.Nat.{ℕ, zero, suc, ◌-◌, ◌≤◌, ◌<◌}
use native.Mathlib.Omega.{arith}
use lib.ListN.{length}
use Rattle.bits.proofs.Numbers.{lt-or-le}
use Rattle.schedule.specs.Schedule.{State, empty, waits, begin, numbers, cyclic, first_of, next, Work, Service, service_of, after_service, work_on, unless_none, serve}
use Rattle.schedule.specs.History.{Event, enter, call, is_free, after_entry, after}
use Rattle.schedule.specs.Fair.{Until}
use Rattle.schedule.proofs.Order.{clash, or_else, first-append, numbers-none, next-first}
use Rattle.schedule.proofs.Chain.{Tidy, put-callers, serve-follows, entry_case, empty-tidy}

-- there is no next caller: no caller passes
none-parts : (a b : Option ℕ) → or_else a b ≡ none → (a ≡ none) × (b ≡ none)
none-parts none b e = (refl, e)
none-parts (some x) b e = let z : ◌≡◌ {A = ℕ} 0 1 = cc in absurd (omega arith)

next-none : (N : ℕ) (last : Option ℕ) (f : ℕ → Bool) → begin last ≤ N → next N last f ≡ none → (d : ℕ) → d < N → f d ≡ false
unfolding next cyclic
next-none N last f l e d dN =
    let b = begin last in
    let p = none-parts (first_of f (numbers b (N - b))) (first_of f (numbers 0 b)) (sym (first-append f (numbers b (N - b)) (numbers 0 b)) ∙ e) in
    ⊎_elim
    (λ (m : d < b). numbers-none f 0 b p.1 d (omega arith) (omega arith))
    (λ (m : b ≤ d). numbers-none f b (N - b) p.0 d m (omega arith))
    (lt-or-le d b)

not-true : (t : Bool) → (t ≡ true → ⊥) → t ≡ false
not-true true h = absurd (h refl)
not-true false h = refl

module _ {Job Verdict : Type 0} (N : ℕ) (work : Work Job Verdict) where
  -- the quota is used, or nobody waits
  abbrev Ends : ℕ → List (Service Verdict) × State Job → Type 0
  Ends quota r = (length r.0 ≡ quota) ⊎ ((c : ℕ) → waits r.1 c ≡ false)

  ends-turn : (quota : ℕ) (s : State Job) (o : Option ℕ) → next N s.last (waits s) ≡ o → Tidy N s
      → ((c : ℕ) → Tidy N (after_service work c s) → Ends quota (serve N work quota (after_service work c s)))
      → Ends (suc quota)
      (unless_none o ([], s)
      (λ c. (service_of work c s ∷ (serve N work quota (after_service work c s)).0, (serve N work quota (after_service work c s)).1)))
  ends-turn quota s none e t ih =
      inr λ c. not-true (waits s c) λ w. clash w (next-none N s.last (waits s) t.last e c (t.callers c w))
  ends-turn quota s (some c) e t ih =
      let n = next-first N s.last (waits s) c t.last e in
      ⊎_elim
      (λ (u : length (serve N work quota (after_service work c s)).0 ≡ quota). inl (ap suc u))
      (λ (v : (d : ℕ) → waits (serve N work quota (after_service work c s)).1 d ≡ false). inr v)
      (ih c (record { last = n.within; callers = put-callers N s.slot c (work_on (work c) (s.slot c)) n.within t.callers }))

  serve-ends : (quota : ℕ) (s : State Job) → Tidy N s → Ends quota (serve N work quota s)
  unfolding serve
  serve-ends zero s t = inl refl
  serve-ends (suc quota) s t = ends-turn quota s (next N s.last (waits s)) refl t (λ c u. serve-ends quota (after_service work c s) u)

after-tidy : {Job Verdict : Type 0} (N : ℕ) (s : State Job) (events : List (Event Job Verdict)) → Tidy N s → Tidy N (after N s events)
unfolding after after_entry
after-tidy N s [] t = t
after-tidy N s (enter c j ∷ events) t = after-tidy N (after_entry N c j s) events (entry_case N c j s (is_free N c s) refl t)
after-tidy N s (call quota work ∷ events) t = after-tidy N (serve N work quota s).1 events (serve-follows N work quota s t).tidy

pub until : Until
until Job Verdict N before quota work = serve-ends N work quota (after N empty before) (after-tidy N empty before (empty-tidy N))
