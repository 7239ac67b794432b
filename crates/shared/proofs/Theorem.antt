-- The promises of order 9 over every list of entries and calls.
-- Assumes nothing.
use mathlib.Core.Path.{◌≡◌, refl, sym, ap, ◌∙◌, subst}
use mathlib.Core.Bool.{Bool, true, false, cond, not, ◌&&◌}
use mathlib.Core.List.{List, [], ◌∷◌}
use mathlib.Core.Option.{Option, none, some}
use mathlib.Core.Logic.{◌⊎◌, inl, inr, ⊎_elim}
use Prim.Native.Nat.{ℕ, zero, suc, ◌+◌, ◌≤◌, ◌<◌}
use native.Mathlib.Omega.{arith}
use lib.Dec.{ltb}
use lib.ListN.{get_or, drop}
use lib.Seq.{get_or-drop}
use Rattle.keccak.proofs.Absorbing.{Bytes}
use Rattle.circuit.specs.File.{circuit_of}
use Rattle.proof.specs.File.{header_m}
use Rattle.proof.specs.Check.{check_legal}
use Rattle.proof.proofs.Digests.{front_bytes}
use Rattle.schedule.specs.Schedule.{State, waits, Outcome, goes_on, finished, Service, empty}
use Rattle.schedule.specs.History as history
use Rattle.schedule.specs.History.{Event, is_free, after_entry, after, services_from}
use Rattle.schedule.specs.Alone.{by_outcome, alone, own_in, verdict_in, Same}
use Rattle.schedule.proofs.Fairness.{within, between}
use Rattle.schedule.proofs.Waiting.{soon}
use Rattle.schedule.proofs.Verdicts.{verdict-alone}
use Rattle.shared.specs.declared.Place.{Place}
use Rattle.shared.specs.declared.Places.{Places}
use Rattle.shared.specs.declared.Job.{Job}
use Rattle.shared.specs.Service.{at, all_inside, entry_of, entry_at, number, instance_of, service_at, job_at}
use Rattle.shared.specs.Operations.{long_work, enter_refusal, entered, Lent, enter, call, state_after, services_after}
use Rattle.shared.specs.Theorem.{SameAt, Throughout, verdict_alone, LongEnough, SharedChecker}
use Rattle.shared.proofs.Histories.{takes, makes, planned, entered-is, state-planned, services-planned}
use Rattle.shared.proofs.Instances.{verdict-op, told-alone, ends-alone}
use Rattle.shared.proofs.Told.{call-told}
use Rattle.shared.proofs.Onward.{Kept, kept-instance, service-keeps}

-- bytes of the buffer
part_bytes : (buffer : List ℕ) (p : Place) → ((i : ℕ) → get_or buffer i 0 < 256) → Bytes (at buffer p)
part_bytes buffer p h = front_bytes p.len (drop p.start buffer) (λ i. rw (get_or-drop p.start buffer i 0) (h (p.start + i)))

module _ (p : Places) (buffer : List ℕ) (ins : all_inside buffer p ≡ true) where
  -- the same bytes are served alike
  service-same : (other : List ℕ) → SameAt p buffer other → (j : Job) → j.places ≡ p → service_at other j ≡ service_at buffer j
  unfolding service_at entry_at
  service-same other m j e = rw (e, ins, m.inside, m.circuit, m.y, m.message, m.proof)

  same-planned : (t : Bool) (c quota : ℕ) (other : List ℕ) (events : List (Event Job ℕ)) → SameAt p buffer other
      → Same (λ (j : Job). j.places ≡ p) c (service_at buffer) events
      → Same (λ (j : Job). j.places ≡ p) c (service_at buffer) (cond t (history.call quota (λ d. service_at other) ∷ events) events)
  unfolding Same
  same-planned true c quota other events m h = (service-same other m, h)
  same-planned false c quota other events m h = h

  entry-planned : (t : Bool) (c d : ℕ) (i : Job) (events : List (Event Job ℕ))
      → Same (λ (j : Job). j.places ≡ p) c (service_at buffer) events
      → Same (λ (j : Job). j.places ≡ p) c (service_at buffer) (cond t (history.enter d i ∷ events) events)
  unfolding Same
  entry-planned true c d i events h = h
  entry-planned false c d i events h = h

  throughout-same : (c : ℕ) (events : List Lent) → Throughout p buffer events → Same (λ (j : Job). j.places ≡ p) c (service_at buffer) (planned events)
  unfolding Throughout planned Same
  throughout-same c [] h = tt
  throughout-same c (enter d q other work ∷ events) h =
      entry-planned (takes q other work) c d (job_at q) (planned events) (throughout-same c events h)
  throughout-same c (call quota other work ∷ events) h =
      same-planned (makes quota work) c quota other (planned events) h.0 (throughout-same c events h.1)

-- an entry that is not refused
free-cases : (b1 b2 i l : Bool) (e : Option ℕ) → cond b1 (cond b2 (some 27) (cond i (cond l e (some 6)) (some 6))) (some 26) ≡ none
    → (b1 && not b2 ≡ true) × ((i ≡ true) × ((l ≡ true) × (e ≡ none)))
free-cases true false true true e q = (refl, (refl, (refl, q)))
free-cases true false true false e q = let z : ◌≡◌ {A = ℕ} 0 1 = cc in absurd (omega arith)
free-cases true false false l e q = let z : ◌≡◌ {A = ℕ} 0 1 = cc in absurd (omega arith)
free-cases true true i l e q = let z : ◌≡◌ {A = ℕ} 0 1 = cc in absurd (omega arith)
free-cases false b2 i l e q = let z : ◌≡◌ {A = ℕ} 0 1 = cc in absurd (omega arith)

module _ (c : ℕ) (p : Places) (buffer work : List ℕ) (s : State Job) (e : enter_refusal c p buffer work s ≡ none) where
  free-parts : (ltb c 16 && not (waits s c) ≡ true) × ((all_inside buffer p ≡ true) × ((long_work work ≡ true) × (entry_at buffer p ≡ none)))
  unfolding enter_refusal
  free-parts = free-cases (ltb c 16) (waits s c) (all_inside buffer p) (long_work work) (entry_at buffer p) e

  free-entry : is_free 16 c s ≡ true
  unfolding is_free
  free-entry = free-parts.0

  free_bytes : entry_of (at buffer p.circuit) (at buffer p.y) (at buffer p.message) (at buffer p.proof) ≡ none
  unfolding entry_at
  free_bytes = rw free-parts.1.0 at free-parts.1.1.1

  free-entered : entered c p buffer work s ≡ after_entry 16 c (job_at p) s
  free-entered =
      entered-is c p buffer work s
      ∙ rw (free-parts.1.0, free-parts.1.1.0, free-parts.1.1.1)

-- what a service of the entered proof does is its next instance
module _ (buffer : List ℕ) (p : Places) (e : entry_at buffer p ≡ none) where
  abbrev instances : Job → Outcome Job ℕ
  instances = instance_of (at buffer p.circuit) (at buffer p.y) (at buffer p.message) (at buffer p.proof)

  service-is : (j : Job) → j.places ≡ p → service_at buffer j ≡ instances j
  unfolding service_at
  service-is j q = rw (q, e)

  outcome-same : (k : ℕ) (o : Outcome Job ℕ) → Kept p o → ((j : Job) → j.places ≡ p → alone (service_at buffer) k j ≡ alone instances k j)
      → by_outcome o (alone (service_at buffer) k) some ≡ by_outcome o (alone instances k) some
  unfolding Kept
  outcome-same k (goes_on j) h ih = ih j h
  outcome-same k (finished v) h ih = refl

  alone-same : (k : ℕ) (j : Job) → j.places ≡ p → alone (service_at buffer) k j ≡ alone instances k j
  unfolding alone
  alone-same zero j q = refl
  alone-same (suc k) j q =
      ap (λ (o : Outcome Job ℕ). by_outcome o (alone (service_at buffer) k) some) (service-is j q)
      ∙ outcome-same k (instances j) (subst (λ (x : Places). Kept x (instances j)) q (kept-instance _ _ _ _ j)) (alone-same k)

start-places : (p : Places) → (job_at p).places ≡ p
unfolding job_at
start-places p = refl

-- the verdict of a proof that enters and is lent the same bytes throughout
module _ (before later : List Lent) (c : ℕ) (p : Places) (buffer work own : List ℕ) (bytes : (i : ℕ) → get_or buffer i 0 < 256) (long : LongEnough buffer p own)
    (e : enter_refusal c p buffer work (state_after empty before) ≡ none) (h : Throughout p buffer later) where
  abbrev state : State Job
  state = state_after empty before

  abbrev services : List (Service ℕ)
  services = services_after (entered c p buffer work state) later

  services-are : services ≡ services_from 16 (after_entry 16 c (job_at p) (after 16 empty (planned before))) (planned later)
  services-are =
      services-planned (entered c p buffer work state) later
      ∙ ap (λ (x : State Job). services_from 16 x (planned later)) (free-entered c p buffer work state e ∙ ap (after_entry 16 c (job_at p)) (state-planned empty before))

  verdict-same : verdict_in c services ≡ alone (service_at buffer) (own_in c services) (job_at p)
  verdict-same =
      subst (λ (x : List (Service ℕ)). verdict_in c x ≡ alone (service_at buffer) (own_in c x) (job_at p)) (sym services-are)
      (verdict-alone Job ℕ 16 (planned before) (planned later) c (job_at p) (service_at buffer) (λ (j : Job). j.places ≡ p)
      (subst (λ (x : State Job). is_free 16 c x ≡ true) (state-planned empty before) (free-entry c p buffer work state e)) (start-places p)
      (service-keeps buffer p) (throughout-same p buffer (free-parts c p buffer work state e).1.0 c later h))

  op-is : number (check_legal (at buffer p.circuit) (at buffer p.y) (at buffer p.message) (at buffer p.proof) (circuit_of (at buffer p.circuit))).answer
      ≡ verdict_alone buffer p own
  op-is =
      sym (verdict-op (at buffer p.circuit) (at buffer p.y) (at buffer p.message) (at buffer p.proof) (part_bytes buffer p.proof bytes)
      (free_bytes c p buffer work state e) own long)

  verdict-told : (verdict_in c services ≡ none) ⊎ (verdict_in c services ≡ some (verdict_alone buffer p own))
  verdict-told =
      let q = verdict-same ∙ alone-same buffer p (free-parts c p buffer work state e).1.1.1 (own_in c services) (job_at p) (start-places p) in
      ⊎_elim (λ a. inl (q ∙ a)) (λ a. inr (q ∙ a ∙ ap some op-is))
      (told-alone (at buffer p.circuit) (at buffer p.y) (at buffer p.message) (at buffer p.proof) (part_bytes buffer p.proof bytes)
      (free_bytes c p buffer work state e) p (own_in c services))

  verdict-ends : header_m (at buffer p.proof) ≤ own_in c services → verdict_in c services ≡ some (verdict_alone buffer p own)
  verdict-ends l =
      verdict-same
      ∙ (alone-same buffer p (free-parts c p buffer work state e).1.1.1 (own_in c services) (job_at p) (start-places p)
      ∙ ends-alone (at buffer p.circuit) (at buffer p.y) (at buffer p.message) (at buffer p.proof) (part_bytes buffer p.proof bytes)
      (free_bytes c p buffer work state e) p (own_in c services) l
      ∙ ap some op-is)

-- the theorem
pub shared-checker : SharedChecker
shared-checker =
    record {
      within = λ events b row a c e. within Job ℕ 16 (planned events) b row a c (sym (services-planned empty events) ∙ e);
      soon = λ events b row a first c e. soon Job ℕ 16 (planned events) b row a first c (sym (services-planned empty events) ∙ e);
      between = λ events b row a first second c e. between Job ℕ 16 (planned events) b row a first second c (sym (services-planned empty events) ∙ e);
      alone = verdict-told;
      ends = verdict-ends;
      told = call-told;
    }
