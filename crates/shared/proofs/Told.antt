-- The verdicts that a call answers: under each caller stands the verdict of its proof in that call.
-- Assumes nothing.
use mathlib.Core.Path.{◌≡◌, refl, sym, ap, ap₂, ◌∙◌, subst}
use mathlib.Core.List.{List, [], ◌∷◌}
use mathlib.Core.Option.{Option, none, some}
use mathlib.Core.Logic.{◌≢◌, ⊎_elim}
use Prim.Native.Nat.{ℕ, zero, suc, ◌<◌}
use borrow.Author.Tests.{eq-eqb, ne_eqb}
use lib.ListN.{length, get_or, set, replicate, length-set, get_or-replicate}
use lib.Seq.{get_or-set_same, get_or-set_other}
use Rattle.bits.proofs.Numbers.{eq-or-ne}
use Rattle.schedule.specs.Schedule.{Slot, idle, waiting, State, waits, next, Outcome, goes_on, finished, Work, Service, leaves, verdict_of, work_on, verdict_on, put, service_of, after_service, unless_none, serve}
use Rattle.schedule.specs.Alone.{verdict_in}
use Rattle.schedule.proofs.Verdicts.{put_same, put_other}
use Rattle.shared.specs.declared.Job.{Job}
use Rattle.shared.specs.Service.{unless_refused, service_at}
use Rattle.shared.specs.Operations.{call_refusal, called, under, noted, verdicts_of}
use Rattle.shared.specs.Theorem.{held_as}
use Rattle.shared.proofs.Instances.{none-some}

-- a verdict, or what stood there
abbrev instead : ℕ → Option ℕ → ℕ
instead x none = x
instead x (some v) = v

-- a proof that is finished leaves its slot
finished-idle : (w : Job → Outcome Job ℕ) (x : Slot Job) (v : ℕ) → verdict_on w x ≡ some v → work_on w x ≡ idle
finished-idle w idle v e = absurd (none-some (sym e))
finished-idle w (waiting j) v e = by-case (w j) e
  where
    by-case : (o : Outcome Job ℕ) → verdict_of o ≡ some v → leaves o ≡ idle
    by-case (goes_on k) q = absurd (none-some (sym q))
    by-case (finished x) q = refl

under-length : (d : ℕ) (o : Option ℕ) (vs : List ℕ) → length (under d o vs) ≡ length vs
under-length d none vs = refl
under-length d (some v) vs = length-set vs d v

module _ (c : ℕ) where
  under-other : (d : ℕ) (o : Option ℕ) (vs : List ℕ) → d ≢ c → get_or (under d o vs) c 255 ≡ get_or vs c 255
  under-other d none vs e = refl
  under-other d (some v) vs e = get_or-set_other vs d c v 255 (λ q. e (sym q))

  -- what stands under the caller after these services
  abbrev Told : List ℕ → List (Service ℕ) → Type 0
  Told vs ss = get_or (noted vs ss) c 255 ≡ instead (get_or vs c 255) (verdict_in c ss)

  -- another's service
  told-other : (x : Service ℕ) (ss : List (Service ℕ)) (vs : List ℕ) → x.caller ≢ c → Told (under x.caller x.verdict vs) ss → Told vs (x ∷ ss)
  unfolding noted verdict_in
  told-other x ss vs e h = rw (ne_eqb x.caller c e) (h ∙ ap (λ (k : ℕ). instead k (verdict_in c ss)) (under-other x.caller x.verdict vs e))

  -- its own: it goes on, or is finished and has no service after it
  told-on : (x : Service ℕ) (ss : List (Service ℕ)) (vs : List ℕ) → x.caller ≡ c → x.verdict ≡ none → Told vs ss → Told vs (x ∷ ss)
  unfolding noted verdict_in
  told-on x ss vs e q h = rw (eq-eqb x.caller c e, q) h

  told-end : (x : Service ℕ) (ss : List (Service ℕ)) (vs : List ℕ) (v : ℕ) → x.caller ≡ c → x.verdict ≡ some v → verdict_in c ss ≡ none → c < length vs
      → Told (set vs x.caller v) ss → Told vs (x ∷ ss)
  unfolding noted verdict_in
  told-end x ss vs v e q z l h =
      rw (eq-eqb x.caller c e, q) (h ∙ ap₂ instead (ap (λ (k : ℕ). get_or (set vs k v) c 255) e ∙ get_or-set_same vs c v 255 l) z)

  none_other : (x : Service ℕ) (ss : List (Service ℕ)) → x.caller ≢ c → verdict_in c ss ≡ none → verdict_in c (x ∷ ss) ≡ none
  unfolding verdict_in
  none_other x ss e h = rw (ne_eqb x.caller c e) h

  none-own : (x : Service ℕ) (ss : List (Service ℕ)) → x.caller ≡ c → x.verdict ≡ none → verdict_in c ss ≡ none → verdict_in c (x ∷ ss) ≡ none
  unfolding verdict_in
  none-own x ss e q h = rw (eq-eqb x.caller c e, q) h

  module _ (work : Work Job ℕ) where
    abbrev turn : ℕ → State Job → Option ℕ → List (Service ℕ) × State Job
    turn quota s o =
        unless_none o ([], s)
        (λ d. (service_of work d s ∷ (serve 16 work quota (after_service work d s)).0, (serve 16 work quota (after_service work d s)).1))

    -- the caller's slot after a service
    own-slot : (s : State Job) (d : ℕ) → d ≡ c → (after_service work d s).slot c ≡ work_on (work d) (s.slot d)
    own-slot s d e = ap (put s.slot d (work_on (work d) (s.slot d))) (sym e) ∙ put_same s.slot d (work_on (work d) (s.slot d))

    other-slot : (s : State Job) (d : ℕ) → d ≢ c → (after_service work d s).slot c ≡ s.slot c
    other-slot s d e = put_other s.slot d (work_on (work d) (s.slot d)) c (λ q. e (sym q))

    -- an idle caller gets no verdict
    none-turn : (quota : ℕ) (s : State Job) → s.slot c ≡ idle → (o : Option ℕ)
        → ((d : ℕ) → (after_service work d s).slot c ≡ idle → verdict_in c (serve 16 work quota (after_service work d s)).0 ≡ none) → verdict_in c (turn quota s o).0 ≡ none
    unfolding verdict_in
    none-turn quota s h none ih = refl
    none-turn quota s h (some d) ih =
        ⊎_elim
        (λ (e : d ≡ c).
        let g : s.slot d ≡ idle = ap s.slot e ∙ h in
        none-own (service_of work d s) (serve 16 work quota (after_service work d s)).0 e (ap (verdict_on (work d)) g) (ih d (own-slot s d e ∙ ap (work_on (work d)) g)))
        (λ (e : d ≢ c). none_other (service_of work d s) (serve 16 work quota (after_service work d s)).0 e (ih d (other-slot s d e ∙ h)))
        (eq-or-ne d c)

    idle-none : (quota : ℕ) (s : State Job) → s.slot c ≡ idle → verdict_in c (serve 16 work quota s).0 ≡ none
    unfolding serve verdict_in
    idle-none zero s h = refl
    idle-none (suc quota) s h = none-turn quota s h (next 16 s.last (waits s)) (λ d. idle-none quota (after_service work d s))

    own_turn : (quota : ℕ) (s : State Job) (vs : List ℕ) (d : ℕ) → d ≡ c → c < length vs
        → ((ws : List ℕ) → c < length ws → Told ws (serve 16 work quota (after_service work d s)).0) → (o : Option ℕ) → verdict_on (work d) (s.slot d) ≡ o
        → Told vs (service_of work d s ∷ (serve 16 work quota (after_service work d s)).0)
    own_turn quota s vs d e l ih none q = told-on (service_of work d s) (serve 16 work quota (after_service work d s)).0 vs e q (ih vs l)
    own_turn quota s vs d e l ih (some v) q =
        told-end (service_of work d s) (serve 16 work quota (after_service work d s)).0 vs v e q
        (idle-none quota (after_service work d s) (own-slot s d e ∙ finished-idle (work d) (s.slot d) v q)) l
        (ih (set vs d v) (subst (λ (n : ℕ). c < n) (sym (length-set vs d v)) l))

    told-turn : (quota : ℕ) (s : State Job) (vs : List ℕ) → c < length vs → (o : Option ℕ)
        → ((d : ℕ) (ws : List ℕ) → c < length ws → Told ws (serve 16 work quota (after_service work d s)).0) → Told vs (turn quota s o).0
    unfolding noted verdict_in
    told-turn quota s vs l none ih = refl
    told-turn quota s vs l (some d) ih =
        ⊎_elim
        (λ (e : d ≡ c). own_turn quota s vs d e l (ih d) (verdict_on (work d) (s.slot d)) refl)
        (λ (e : d ≢ c).
        told-other (service_of work d s) (serve 16 work quota (after_service work d s)).0 vs e
        (ih d (under d (verdict_on (work d) (s.slot d)) vs) (subst (λ (n : ℕ). c < n) (sym (under-length d (verdict_on (work d) (s.slot d)) vs)) l)))
        (eq-or-ne d c)

    told : (quota : ℕ) (s : State Job) (vs : List ℕ) → c < length vs → Told vs (serve 16 work quota s).0
    unfolding serve noted verdict_in
    told zero s vs l = refl
    told (suc quota) s vs l = told-turn quota s vs l (next 16 s.last (waits s)) (λ d. told quota (after_service work d s))

-- no service was made
none_yet : (c : ℕ) → Told c (replicate 16 255) []
unfolding noted verdict_in
none_yet c = refl

-- the verdicts of a call
pub call-told : (quota : ℕ) (buffer work : List ℕ) (s : State Job) (c : ℕ) → c < 16
    → get_or (verdicts_of (called quota buffer work s).0) c 255 ≡ held_as (verdict_in c (called quota buffer work s).0)
unfolding called
call-told quota buffer work s c l = by-refusal (call_refusal quota work s)
  where
    held : (o : Option ℕ) → instead 255 o ≡ held_as o
    held none = refl
    held (some v) = refl

    of-told : (ss : List (Service ℕ)) → Told c (replicate 16 255) ss → get_or (verdicts_of ss) c 255 ≡ held_as (verdict_in c ss)
    of-told ss h = h ∙ ap (λ (x : ℕ). instead x (verdict_in c ss)) (get_or-replicate 16 c 255 255 l) ∙ held (verdict_in c ss)

    by-refusal : (o : Option ℕ)
        → get_or (verdicts_of (unless_refused o (λ k. ([], s)) (serve 16 (λ d. service_at buffer) quota s)).0) c 255
        ≡ held_as (verdict_in c (unless_refused o (λ k. ([], s)) (serve 16 (λ d. service_at buffer) quota s)).0)
    by-refusal none = of-told (serve 16 (λ d. service_at buffer) quota s).0 (told c (λ d. service_at buffer) quota s (replicate 16 255) l)
    by-refusal (some k) = of-told [] (none_yet c)
