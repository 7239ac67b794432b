-- The services of a history, one after another, are each the next in cyclic order after the one before.
-- Assumes nothing.
use mathlib.Core.Path.{◌≡◌, refl, sym, subst}
use mathlib.Core.Bool.{Bool, true, false, cond, not, ◌&&◌, true≢false}
use mathlib.Core.List.{List, [], ◌∷◌, ◌++◌}
use mathlib.Core.Option.{Option, none, some}
use mathlib.Core.Logic.{◌≢◌, ⊎_elim}
use Prim.Native.Nat.{ℕ, zero, suc, ◌≤◌, ◌<◌}
use native.Mathlib.Omega.{arith}
use borrow.Author.Tests.{ne_eqb, ltb-true}
use lib.Dec.{ltb}
use Rattle.bits.proofs.Numbers.{eq-or-ne}
use Rattle.schedule.specs.Schedule.{Slot, waiting, State, empty, waits, is_waiting, begin, next, Work, Service, work_on, put, service_of, after_service, unless_none, serve}
use Rattle.schedule.specs.History.{Event, enter, call, is_free, after_entry, services_from, services}
use Rattle.schedule.proofs.Order.{next-first}

pub and_first : (a b : Bool) → a && b ≡ true → a ≡ true
and_first true b e = refl
and_first false b e = e

pub and_second : (a b : Bool) → a && b ≡ true → b ≡ true
and_second true b e = e
and_second false b e = absurd (true≢false (sym e))

-- each service is of the next caller in cyclic order, and only callers below N wait
unfoldable pub Follows : {Verdict : Type 0} → ℕ → Option ℕ → List (Service Verdict) → Type 0
Follows N last [] = Unit {0}
Follows N last (s ∷ ss) = (next N last s.waited ≡ some s.caller) × ((d : ℕ) → s.waited d ≡ true → d < N) × Follows N (some s.caller) ss

-- who was served last after a list of services
unfoldable pub last_of : {Verdict : Type 0} → Option ℕ → List (Service Verdict) → Option ℕ
last_of last [] = last
last_of last (s ∷ ss) = last_of (some s.caller) ss

module _ {Verdict : Type 0} (N : ℕ) where
  pub follows-append : (last : Option ℕ) (xs ys : List (Service Verdict)) → Follows N last xs → Follows N (last_of last xs) ys → Follows N last (xs ++ ys)
  unfolding Follows last_of
  follows-append last [] ys p q = q
  follows-append last (s ∷ xs) ys p q = (p.0, p.1, follows-append (some s.caller) xs ys p.2 q)

  pub follows-first : (last : Option ℕ) (xs ys : List (Service Verdict)) → Follows N last (xs ++ ys) → Follows N last xs
  unfolding Follows
  follows-first last [] ys p = tt
  follows-first last (s ∷ xs) ys p = (p.0, p.1, follows-first (some s.caller) xs ys p.2)

  pub follows-rest : (last : Option ℕ) (xs ys : List (Service Verdict)) → Follows N last (xs ++ ys) → Follows N (last_of last xs) ys
  unfolding Follows last_of
  follows-rest last [] ys p = p
  follows-rest last (s ∷ xs) ys p = follows-rest (some s.caller) xs ys p.2

  -- the last served is one of the N
  pub last_within : (last : Option ℕ) (xs : List (Service Verdict)) → begin last ≤ N → Follows N last xs → begin (last_of last xs) ≤ N
  unfolding Follows last_of
  last_within last [] l p = l
  last_within last (s ∷ xs) l p = last_within (some s.caller) xs (next-first N last s.waited s.caller l p.0).within p.2

-- the last served and all who wait are among the N
pub record Tidy {Job : Type 0} (N : ℕ) (s : State Job) : Type 0 where
  pub last : begin s.last ≤ N
  pub callers : (d : ℕ) → waits s d ≡ true → d < N

-- a slot put anew
pub put-callers : {Job : Type 0} (N : ℕ) (slots : ℕ → Slot Job) (c : ℕ) (x : Slot Job) → c < N → ((d : ℕ) → is_waiting (slots d) ≡ true → d < N)
    → (d : ℕ) → is_waiting (put slots c x d) ≡ true → d < N
unfolding put
put-callers N slots c x l h d t =
    ⊎_elim (λ (e : d ≡ c). omega arith) (λ (e : d ≢ c). h d (rw (ne_eqb d c e) at t)) (eq-or-ne d c)

-- what a call does
pub record Served {Job Verdict : Type 0} (N : ℕ) (last : Option ℕ) (r : List (Service Verdict) × State Job) : Type 0 where
  pub follows : Follows N last r.0
  pub after : r.1.last ≡ last_of last r.0
  pub tidy : Tidy N r.1

module _ {Job Verdict : Type 0} (N : ℕ) (work : Work Job Verdict) where
  serve-case : (quota : ℕ) (s : State Job) (o : Option ℕ) → next N s.last (waits s) ≡ o → Tidy N s
      → ((c : ℕ) → Tidy N (after_service work c s) → Served N (some c) (serve N work quota (after_service work c s)))
      → Served N s.last
      (unless_none o ([], s)
      (λ c. (service_of work c s ∷ (serve N work quota (after_service work c s)).0, (serve N work quota (after_service work c s)).1)))
  unfolding Follows last_of
  serve-case quota s none p t ih = record { follows = tt; after = refl; tidy = t }
  serve-case quota s (some c) p t ih =
      let n = next-first N s.last (waits s) c t.last p in
      let r =
      ih c (record { last = n.within; callers = put-callers N s.slot c (work_on (work c) (s.slot c)) n.within t.callers }) in
      record { follows = (p, t.callers, r.follows); after = r.after; tidy = r.tidy }

  pub serve-follows : (quota : ℕ) (s : State Job) → Tidy N s → Served N s.last (serve N work quota s)
  unfolding serve Follows last_of
  serve-follows zero s t = record { follows = tt; after = refl; tidy = t }
  serve-follows (suc quota) s t =
      serve-case quota s (next N s.last (waits s)) refl t (λ c u. serve-follows quota (after_service work c s) u)

-- an entry
pub entry_case : {Job : Type 0} (N c : ℕ) (j : Job) (s : State Job) (t : Bool) → is_free N c s ≡ t → Tidy N s
    → Tidy N (cond t (record { last = s.last; slot = put s.slot c (waiting j) }) s)
unfolding is_free
entry_case N c j s false e t = t
entry_case N c j s true e t =
    record {
      last = t.last;
      callers = put-callers N s.slot c (waiting j) (ltb-true c N (and_first (ltb c N) (not (waits s c)) e)) t.callers;
    }

entry-last : {Job : Type 0} (N c : ℕ) (j : Job) (s : State Job) (t : Bool)
    → (cond t (record { last = s.last; slot = put s.slot c (waiting j) }) s).last ≡ s.last
entry-last N c j s true = refl
entry-last N c j s false = refl

pub empty-tidy : {Job : Type 0} (N : ℕ) → Tidy {Job = Job} N empty
empty-tidy N = record { last = omega arith; callers = λ d t. absurd (true≢false (sym t)) }

module _ {Job Verdict : Type 0} (N : ℕ) where
  pub from-follows : (s : State Job) (events : List (Event Job Verdict)) → Tidy N s → Follows N s.last (services_from N s events)
  unfolding services_from Follows after_entry
  from-follows s [] t = tt
  from-follows s (enter c j ∷ events) t =
      subst (λ (l : Option ℕ). Follows N l (services_from N (after_entry N c j s) events)) (entry-last N c j s (is_free N c s))
      (from-follows (after_entry N c j s) events (entry_case N c j s (is_free N c s) refl t))
  from-follows s (call quota work ∷ events) t =
      let r = serve-follows N work quota s t in
      follows-append N s.last (serve N work quota s).0 (services_from N (serve N work quota s).1 events) r.follows
      (subst (λ (l : Option ℕ). Follows N l (services_from N (serve N work quota s).1 events)) r.after
      (from-follows (serve N work quota s).1 events r.tidy))

  pub history-follows : (events : List (Event Job Verdict)) → Follows N none (services N events)
  history-follows events = from-follows empty events (empty-tidy N)
