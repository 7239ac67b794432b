-- A caller that waits goes on waiting until it is served.
-- Assumes nothing.
use mathlib.Core.Path.{◌≡◌, refl, sym, ap, ◌∙◌, subst}
use mathlib.Core.Bool.{Bool, true, false, cond, true≢false}
use mathlib.Core.List.{List, [], ◌∷◌, ◌++◌, append_assoc}
use mathlib.Core.Option.{Option, none, some}
use mathlib.Core.Logic.{◌≢◌, ⊎_elim}
use Prim.Native.Nat.{ℕ, zero, suc}
use borrow.Author.Tests.{eqb-false}
use lib.Dec.{eqb}
use Rattle.bits.proofs.Numbers.{eq-or-ne}
use Rattle.schedule.specs.Schedule.{waiting, State, is_waiting, waits, next, Work, Service, work_on, put, service_of, after_service, unless_none, empty, serve}
use Rattle.schedule.specs.History.{Event, enter, call, is_free, after_entry, services_from, services}
use Rattle.schedule.specs.Fair.{waits_at, served_in, Soon}
use Rattle.schedule.proofs.Chain.{Follows, history-follows, follows-rest}
use Rattle.schedule.proofs.Fairness.{or-first, or-second, is_true, within}
use Rattle.schedule.proofs.Verdicts.{put_same, put_other}

-- whether the caller waits at the first of these services, where there is one
unfoldable Next : {Verdict : Type 0} → ℕ → List (Service Verdict) → Type 0
Next c [] = Unit {0}
Next c (s ∷ ss) = s.waited c ≡ true

-- after another's service the caller still waits
unfoldable Stays : {Verdict : Type 0} → ℕ → List (Service Verdict) → Type 0
Stays c [] = Unit {0}
Stays c (s ∷ ss) = (s.waited c ≡ true → s.caller ≢ c → Next c ss) × Stays c ss

-- whoever waits in state s waits at the first service from then on, and each stays
abbrev Kept : {Job Verdict : Type 0} → ℕ → State Job → List (Service Verdict) → Type 0
Kept c s ss = (waits s c ≡ true → Next c ss) × Stays c ss

-- an entry leaves who waits waiting
entry-waits : {Job : Type 0} (c : ℕ) (s : State Job) (d : ℕ) (i : Job) (t : Bool) → waits s c ≡ true
    → is_waiting ((cond t (record { last = s.last; slot = put s.slot d (waiting i) }) s).slot c) ≡ true
entry-waits c s d i false h = h
entry-waits c s d i true h =
    ⊎_elim
    (λ (e : c ≡ d). ap is_waiting (ap (put s.slot d (waiting i)) e ∙ put_same s.slot d (waiting i)))
    (λ (e : c ≢ d). ap is_waiting (put_other s.slot d (waiting i) c e) ∙ h)
    (eq-or-ne c d)

module _ {Job Verdict : Type 0} (N c : ℕ) where
  module _ (work : Work Job Verdict) (rest : List (Service Verdict)) where
    abbrev turn : ℕ → State Job → Option ℕ → List (Service Verdict) × State Job
    turn quota s o =
        unless_none o ([], s)
        (λ d. (service_of work d s ∷ (serve N work quota (after_service work d s)).0, (serve N work quota (after_service work d s)).1))

    turn-kept : (quota : ℕ) (s : State Job) (o : Option ℕ)
        → ((d : ℕ) → Kept c (serve N work quota (after_service work d s)).1 rest → Kept c (after_service work d s) ((serve N work quota (after_service work d s)).0 ++ rest))
        → Kept c (turn quota s o).1 rest → Kept c s ((turn quota s o).0 ++ rest)
    unfolding Next Stays
    turn-kept quota s none ih k = k
    turn-kept quota s (some d) ih k =
        let r = ih d k in (
          λ t. t,
          (λ t ne. r.0 (ap is_waiting (put_other s.slot d (work_on (work d) (s.slot d)) c (λ q. ne (sym q))) ∙ t), r.1),
        )

    serve-kept : (quota : ℕ) (s : State Job) → Kept c (serve N work quota s).1 rest → Kept c s ((serve N work quota s).0 ++ rest)
    unfolding serve
    serve-kept zero s k = k
    serve-kept (suc quota) s k = turn-kept quota s (next N s.last (waits s)) (λ d. serve-kept quota (after_service work d s)) k

  from-kept : (s : State Job) (events : List (Event Job Verdict)) → Kept c s (services_from N s events)
  unfolding services_from after_entry Next Stays
  from-kept s [] = (λ t. tt, tt)
  from-kept s (enter d i ∷ events) =
      let r = from-kept (after_entry N d i s) events in
      (λ t. r.0 (entry-waits c s d i (is_free N d s) t), r.1)
  from-kept s (call quota work ∷ events) =
      serve-kept work (services_from N (serve N work quota s).1 events) quota s (from-kept (serve N work quota s).1 events)

module _ {Verdict : Type 0} (c : ℕ) where
  stays-rest : (xs ys : List (Service Verdict)) → Stays c (xs ++ ys) → Stays c ys
  unfolding Stays
  stays-rest [] ys p = p
  stays-rest (x ∷ xs) ys p = stays-rest xs ys p.1

  -- until it is served it waits
  stays-waits : (row after : List (Service Verdict)) → Stays c (row ++ after) → Next c (row ++ after) → served_in c row ≡ false → waits_at c row ≡ true
  unfolding Stays Next served_in waits_at
  stays-waits [] after p n f = refl
  stays-waits (s ∷ row) after p n f =
      rw n
      (stays-waits row after p.1 (p.0 n (eqb-false s.caller c (or-first (eqb s.caller c) (served_in c row) f)))
      (or-second (eqb s.caller c) (served_in c row) f))

-- of any N services in a row at whose first a caller waits, one is its own
pub soon : Soon
unfolding Stays Next Follows
soon Job Verdict N events before row after first c e len w =
    let g : services N events ≡ before ++ ((first ∷ row) ++ after) = e ∙ append_assoc before (first ∷ row) after in
    let k = stays-rest c before ((first ∷ row) ++ after) (subst (Stays c) g (from-kept N c empty events).1) in
    let f = follows-rest N none before ((first ∷ row) ++ after) (subst (Follows N none) g (history-follows N events)) in
    is_true (served_in c (first ∷ row)) λ n.
    true≢false
    (sym (within Job Verdict N events before (first ∷ row) after c e len (f.1 c w) (stays-waits c (first ∷ row) after k w n)) ∙ n)
