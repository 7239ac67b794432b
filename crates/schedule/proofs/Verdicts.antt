-- A caller's first verdict is the one that its job gets alone.
-- Assumes nothing.
use mathlib.Core.Path.{◌≡◌, refl, sym, ap, ◌∙◌}
use mathlib.Core.Bool.{Bool, true, false, cond, not, true≢false}
use mathlib.Core.List.{List, [], ◌∷◌, ◌++◌}
use mathlib.Core.Option.{Option, none, some}
use mathlib.Core.Logic.{◌≢◌, ⊎_elim}
use Prim.Native.Nat.{ℕ, zero, suc}
use borrow.Author.Tests.{eq-eqb, ne_eqb}
use lib.Dec.{ltb}
use Rattle.bits.proofs.Numbers.{eq-or-ne}
use Rattle.schedule.specs.Schedule.{Slot, waiting, State, is_waiting, waits, next, Outcome, goes_on, finished, Work, Service, leaves, verdict_of, work_on, verdict_on, put, service_of, after_service, unless_none, empty, serve}
use Rattle.schedule.specs.History.{Event, enter, call, is_free, after_entry, after, services_from}
use Rattle.schedule.specs.Alone.{alone, own_in, verdict_in, Same, Keeps, Alone}
use Rattle.schedule.proofs.Chain.{and_second}

-- a slot put anew
pub put_same : {Job : Type 0} (slots : ℕ → Slot Job) (c : ℕ) (x : Slot Job) → put slots c x c ≡ x
unfolding put
put_same slots c x = rw (eq-eqb c c refl)

pub put_other : {Job : Type 0} (slots : ℕ → Slot Job) (c : ℕ) (x : Slot Job) (k : ℕ) → k ≢ c → put slots c x k ≡ slots k
unfolding put
put_other slots c x k ne = rw (ne_eqb k c ne)

module _ {Job Verdict : Type 0} (N c : ℕ) (w : Job → Outcome Job Verdict) (Own : Job → Type 0) (keeps : Keeps Own w) where
  -- what services give a caller that waits with j
  abbrev Right : List (Service Verdict) → Job → Type 0
  Right ss j = verdict_in c ss ≡ alone w (own_in c ss) j

  -- another's service
  right-other : (s : Service Verdict) (ss : List (Service Verdict)) (j : Job) → s.caller ≢ c → Right ss j → Right (s ∷ ss) j
  unfolding verdict_in own_in
  right-other s ss j ne r = rw (ne_eqb s.caller c ne) r

  -- its own: it goes on, or is finished
  right-own : (s : Service Verdict) (ss : List (Service Verdict)) (j : Job) (o : Outcome Job Verdict) → s.caller ≡ c → w j ≡ o → s.verdict ≡ verdict_of o
      → ((k : Job) → o ≡ goes_on k → Right ss k) → Right (s ∷ ss) j
  unfolding verdict_in own_in alone
  right-own s ss j (goes_on k) e p v r = rw (eq-eqb s.caller c e, v, p) (r k refl)
  right-own s ss j (finished x) e p v r = rw (eq-eqb s.caller c e, v, p)

  module _ (work : Work Job Verdict) (same : (j : Job) → Own j → work c j ≡ w j) (rest : List (Service Verdict)) where
    -- what remains of a call from a state on
    abbrev Onward : ℕ → State Job → Type 0
    Onward quota s =
        (j : Job) → Own j → s.slot c ≡ waiting j → ((k : Job) → Own k → (serve N work quota s).1.slot c ≡ waiting k → Right rest k)
        → Right ((serve N work quota s).0 ++ rest) j

    abbrev turn : ℕ → State Job → Option ℕ → List (Service Verdict) × State Job
    turn quota s o =
        unless_none o ([], s)
        (λ d. (service_of work d s ∷ (serve N work quota (after_service work d s)).0, (serve N work quota (after_service work d s)).1))

    turn-right : (quota : ℕ) (s : State Job) (j : Job) → Own j → s.slot c ≡ waiting j → (o : Option ℕ) → ((d : ℕ) → Onward quota (after_service work d s))
        → ((k : Job) → Own k → (turn quota s o).1.slot c ≡ waiting k → Right rest k) → Right ((turn quota s o).0 ++ rest) j
    turn-right quota s j own h none ih r = r j own h
    turn-right quota s j own h (some d) ih r =
        ⊎_elim
        (λ (e : d ≡ c).
        let g : s.slot d ≡ waiting j = ap s.slot e ∙ h in
        let v : work d j ≡ w j = ap (λ (i : ℕ). work i j) e ∙ same j own in
        let x : work_on (work d) (s.slot d) ≡ leaves (w j) = ap (work_on (work d)) g ∙ ap leaves v in
        right-own (service_of work d s) ((serve N work quota (after_service work d s)).0 ++ rest) j (w j) e refl
        (ap (verdict_on (work d)) g ∙ ap verdict_of v)
        (λ k q.
        let y : put s.slot d (work_on (work d) (s.slot d)) c ≡ waiting k =
        ap (put s.slot d (work_on (work d) (s.slot d))) (sym e) ∙ put_same s.slot d (work_on (work d) (s.slot d)) ∙ x ∙ ap leaves q in
        ih d k (keeps j k own q) y r))
        (λ (e : d ≢ c).
        right-other (service_of work d s) ((serve N work quota (after_service work d s)).0 ++ rest) j e
        (ih d j own (put_other s.slot d (work_on (work d) (s.slot d)) c (λ q. e (sym q)) ∙ h) r))
        (eq-or-ne d c)

    serve-right : (quota : ℕ) (s : State Job) → Onward quota s
    unfolding serve
    serve-right zero s j own h r = r j own h
    serve-right (suc quota) s j own h r = turn-right quota s j own h (next N s.last (waits s)) (λ d. serve-right quota (after_service work d s)) r

  -- who waits is not entered anew
  entry-keeps : (s : State Job) (d : ℕ) (i j : Job) (t : Bool) → is_free N d s ≡ t → s.slot c ≡ waiting j
      → (cond t (record { last = s.last; slot = put s.slot d (waiting i) }) s).slot c ≡ waiting j
  unfolding is_free
  entry-keeps s d i j false e h = h
  entry-keeps s d i j true e h = put_other s.slot d (waiting i) c (λ q. true≢false (sym (refused q))) ∙ h
    where
      refused : c ≡ d → false ≡ true
      refused q = rw (sym q, h) at (and_second (ltb d N) (not (is_waiting (s.slot d))) e)

  from-right : (s : State Job) (events : List (Event Job Verdict)) (j : Job) → Own j → s.slot c ≡ waiting j → Same Own c w events → Right (services_from N s events) j
  unfolding services_from Same after_entry verdict_in own_in alone
  from-right s [] j own h m = refl
  from-right s (enter d i ∷ events) j own h m = from-right (after_entry N d i s) events j own (entry-keeps s d i j (is_free N d s) refl h) m
  from-right s (call quota work ∷ events) j own h m =
      serve-right work m.0 (services_from N (serve N work quota s).1 events) quota s j own h
      (λ k o e. from-right (serve N work quota s).1 events k o e m.1)

-- the verdict is the one that the job gets alone
pub verdict-alone : Alone
unfolding after_entry
verdict-alone Job Verdict N before later c j w Own free own keeps m =
    let s = after N empty before in
    from-right N c w Own keeps (after_entry N c j s) later j own (rw free (put_same s.slot c (waiting j))) m
