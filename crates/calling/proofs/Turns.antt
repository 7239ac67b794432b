-- The loop of a call: services in cyclic order, each of which changes the state as the schedule says.
-- Assumes nothing.
use mathlib.Core.Path.{◌≡◌, refl, sym, ap, ap₂, ◌∙◌, subst, fun_ext}
use mathlib.Core.Bool.{Bool, true, false, cond}
use mathlib.Core.List.{List, [], ◌∷◌}
use mathlib.Core.Option.{Option, some}
use mathlib.Core.Logic.{◌≢◌, ⊎_elim}
use Prim.Native.Nat.{ℕ, zero, suc, ◌+◌, ◌-◌, ◌≤◌, ◌<◌}
use native.Mathlib.Numerals.{add-one}
use native.Mathlib.Omega.{arith}
use borrow.Author.Tests.{lt-ltb}
use lib.ListN.{length, get_or, set, replicate, length-set, get_or-replicate}
use lib.Seq.{get_or-set_same, get_or-set_other, set-get_or}
use Rattle.std.specs.Prelude.{Option as RustOption, Some, None, Result, Ok, Err}
use Rattle.std.specs.Result.{result_ok}
use Rattle.refusal.specs.declared.Refusal.{Refusal}
use Rattle.bits.proofs.Numbers.{eq-or-ne}
use Rattle.schedule.specs.Schedule.{Slot, idle, waiting, State, waits, next, Work, Service, leaves, verdict_of, work_on, verdict_on, put, service_of, after_service, serve}
use Rattle.schedule.specs.Callers.{last_served}
use Rattle.schedule.specs.Steps.{flagged}
use Rattle.schedule.specs.Steps.{next_caller}
use Rattle.schedule.proofs.Flags.{nobody-next, somebody-next, next-waits}
use Rattle.shared.specs.declared.Places.{Places}
use Rattle.shared.specs.declared.Job.{Job}
use Rattle.shared.specs.declared.Served.{Served}
use Rattle.shared.specs.declared.Served.TheVariants.{GoesOn, Finished}
use Rattle.shared.specs.Service.{service_at}
use Rattle.shared.specs.StateSteps.{nowhere, slot_of, state_of}
use Rattle.shared.specs.Operations as operations
use Rattle.shared.specs.Operations.{under, verdicts_of}
use Rattle.shared.specs.Steps.{outcome_of}
use Rattle.shared.proofs.Histories.{serve-nobody}
use Rattle.shared.proofs.Slots.{waits-flagged, slots-put}
use Rattle.calling.specs.declared.Kept.{Kept}
use Rattle.calling.specs.declared.Called.{Called}
use Rattle.calling.specs.Steps.{Keeps, Replies, waits_on, job_after, told_after}
use Rattle.calling.proofs.Keeping.{places-stay}

-- an element within a list does not depend on the one that stands beyond it
get_or-within : {A : Type 0} (xs : List A) (i : ℕ) (d e : A) → i < length xs → get_or xs i d ≡ get_or xs i e
get_or-within [] i d e l = absurd (omega arith)
get_or-within (x ∷ xs) zero d e l = refl
get_or-within (x ∷ xs) (suc i) d e l = get_or-within xs i d e (omega arith)

-- the state of the loop's variables
abbrev pub standing : ℕ → List Bool → List Job → State Job
standing from flags jobs = state_of (record { begin = from; waiting = flags; jobs = jobs })

module _ (buffer : List ℕ) where
  abbrev work : Work Job ℕ
  work c = service_at buffer

  module _ (from : ℕ) (flags : List Bool) (jobs : List Job) where
    -- the next caller by flags
    pub next-is : next 16 (standing from flags jobs).last (waits (standing from flags jobs)) ≡ next 16 (last_served from) (flagged flags)
    unfolding state_of
    next-is = ap (next 16 (last_served from)) (fun_ext (waits-flagged (record { begin = from; waiting = flags; jobs = jobs })))

    -- nobody waits
    pub serve-none : (left : ℕ) → 15 < next_caller from flags → serve 16 work left (standing from flags jobs) ≡ ([], standing from flags jobs)
    serve-none left h = serve-nobody work left (standing from flags jobs) (next-is ∙ nobody-next from flags h)

    -- no service is left
    pub serve-end : (left : ℕ) → left ≡ 0 → serve 16 work left (standing from flags jobs) ≡ ([], standing from flags jobs)
    unfolding serve
    serve-end left z = ap (λ (i : ℕ). serve 16 work i (standing from flags jobs)) z

    -- caller c is next
    module _ (c : ℕ) (is-next : c ≡ next_caller from flags) (within : c ≤ 15) where
      serve-next : (left : ℕ) → serve 16 work (suc left) (standing from flags jobs)
          ≡ (service_of work c (standing from flags jobs) ∷ (serve 16 work left (after_service work c (standing from flags jobs))).0, (serve 16 work left (after_service work c (standing from flags jobs))).1)
      unfolding serve
      serve-next left =
          let o : next 16 (standing from flags jobs).last (waits (standing from flags jobs)) ≡ some c =
          next-is ∙ somebody-next from flags (omega (arith, is-next, within)) ∙ ap some (sym is-next) in
          rw o

      pub waits-now : flagged flags c ≡ true
      waits-now = subst (λ (k : ℕ). flagged flags k ≡ true) (sym is-next) (next-waits from flags (omega (arith, is-next, within)))

      -- a service of its proof
      module _ (lf : length flags ≡ 16) (lj : length jobs ≡ 16) (d : Job) (r : Served) (e : outcome_of r ≡ service_at buffer (get_or jobs c d)) where
        abbrev after : Served → Job
        after x = job_after (get_or jobs c d) x

        job_is : get_or jobs c nowhere ≡ get_or jobs c d
        job_is = get_or-within jobs c nowhere d (omega (arith, lj, within))

        slot_is : slot_of flags jobs c ≡ waiting (get_or jobs c d)
        unfolding slot_of
        slot_is = ap (λ (b : Bool). cond b (waiting (get_or jobs c nowhere)) idle) waits-now ∙ ap waiting job_is

        leaves-is : cond (waits_on r) (waiting (after r)) idle ≡ work_on (service_at buffer) (slot_of flags jobs c)
        leaves-is = by-case r ∙ ap leaves e ∙ sym (ap (work_on (service_at buffer)) slot_is)
          where
            by-case : (x : Served) → cond (waits_on x) (waiting (after x)) idle ≡ leaves (outcome_of x)
            by-case (GoesOn job) = refl
            by-case (Finished verdict) = refl

        last-is : last_served (c + 1) ≡ some c
        unfolding last_served
        last-is = rw (add-one c, lt-ltb c 16 (omega (arith, within)))

        after_is : standing (c + 1) (set flags c (waits_on r)) (set jobs c (after r)) ≡ after_service work c (standing from flags jobs)
        unfolding state_of
        after_is =
            ap₂ (λ (l : Option ℕ) (f : ℕ → Slot Job). record { last = l; slot = f }) last-is
            (slots-put flags jobs c (waits_on r) (after r) (omega (arith, lf, within)) (omega (arith, lj, within)) ∙ ap (put (slot_of flags jobs) c) leaves-is)

        told_is : (vs : List ℕ) → set vs c (told_after (get_or vs c 0) r) ≡ under c (service_of work c (standing from flags jobs)).verdict vs
        unfolding state_of
        told_is vs = by-case r ∙ sym (ap (λ (o : Option ℕ). under c o vs) (ap (verdict_on (service_at buffer)) slot_is ∙ ap verdict_of (sym e)))
          where
            by-case : (x : Served) → set vs c (told_after (get_or vs c 0) x) ≡ under c (verdict_of (outcome_of x)) vs
            by-case (GoesOn job) = set-get_or vs c 0
            by-case (Finished verdict) = refl

        serve-step : (left : ℕ) → serve 16 work (suc left) (standing from flags jobs)
            ≡ (service_of work c (standing from flags jobs) ∷ (serve 16 work left (standing (c + 1) (set flags c (waits_on r)) (set jobs c (job_after (get_or jobs c d) r)))).0, (serve 16 work left (standing (c + 1) (set flags c (waits_on r)) (set jobs c (job_after (get_or jobs c d) r)))).1)
        serve-step left =
            serve-next left
            ∙ ap (λ (x : State Job). (service_of work c (standing from flags jobs) ∷ (serve 16 work left x).0, (serve 16 work left x).1)) (sym after_is)

  -- with `left` services left: what they make of the answer so far is what all services make of none; and what is kept of a waiting
  -- caller's tests is what they say
  pub record Turn (quota : ℕ) (start : State Job) (from : ℕ) (flags : List Bool) (jobs : List Job) (kept : List (RustOption Kept)) (verdicts : List ℕ) (left : ℕ) : Type 0 where
    pub most : left ≤ quota
    pub flag-count : length flags ≡ 16
    pub job-count : length jobs ≡ 16
    pub kept-count : length kept ≡ 16
    pub keeps : (c : ℕ) (d : Job) (k : Kept) → c < 16 → flagged flags c ≡ true → get_or kept c None ≡ Some k → Keeps (Ok k) buffer (get_or jobs c d).places
    pub state : (serve 16 work left (standing from flags jobs)).1 ≡ (serve 16 work quota start).1
    pub count : quota - left + length (serve 16 work left (standing from flags jobs)).0 ≡ length (serve 16 work quota start).0
    pub told : operations.noted verdicts (serve 16 work left (standing from flags jobs)).0 ≡ verdicts_of (serve 16 work quota start).0

  none-some : {P : Type 0} (k : Kept) → ◌≡◌ {A = RustOption Kept} None (Some k) → P
  none-some k q = let z : ◌≡◌ {A = ℕ} 0 1 = cc in absurd (omega arith)

  -- before the first service
  pub turn-first : (quota left begin : ℕ) (flags : List Bool) (jobs : List Job) → length flags ≡ 16 → length jobs ≡ 16 → quota ≡ left
      → Turn quota (standing begin flags jobs) begin flags jobs (replicate 16 None) (replicate 16 255) left
  turn-first quota left begin flags jobs lf lj e =
      subst (λ (n : ℕ). Turn quota (standing begin flags jobs) begin flags jobs (replicate 16 None) (replicate 16 255) n) e
      (record {
        most = omega arith;
        flag-count = lf;
        job-count = lj;
        kept-count = refl;
        keeps = λ c d k l t q. none-some k (sym (get_or-replicate 16 c None None l) ∙ q);
        state = refl;
        count = omega arith;
        told = refl;
      })

  module _ (quota : ℕ) (start : State Job) (from : ℕ) (flags : List Bool) (jobs : List Job) (kept : List (RustOption Kept)) (verdicts : List ℕ) where
    -- after the last
    pub turn_last : (left : ℕ) → Turn quota start from flags jobs kept verdicts left → serve 16 work left (standing from flags jobs) ≡ ([], standing from flags jobs)
        → (n : ℕ) → n ≡ quota - left → (r : Called)
        → r ≡ record { state = record { begin = from; waiting = flags; jobs = jobs }; count = n; verdicts = verdicts }
        → Replies r (serve 16 work quota start)
    unfolding operations.noted
    turn_last left t e n en r q =
        let s : standing from flags jobs ≡ (serve 16 work quota start).1 = sym (ap (λ (x : List (Service ℕ) × State Job). x.1) e) ∙ t.state in
        let l : length (serve 16 work left (standing from flags jobs)).0 ≡ 0 = ap (λ (x : List (Service ℕ) × State Job). length x.0) e in
        let v : verdicts ≡ verdicts_of (serve 16 work quota start).0 = sym (ap (λ (x : List (Service ℕ) × State Job). operations.noted verdicts x.0) e) ∙ t.told in
        let m : n ≡ length (serve 16 work quota start).0 = omega (arith, en, l, t.count) in
        (ap (λ (x : Called). state_of x.state) q ∙ s, (ap (λ (x : Called). x.count) q ∙ m, ap (λ (x : Called). x.verdicts) q ∙ v))

    -- one service of caller c, with what its tests answer
    module _ (c : ℕ) (is-next : c ≡ next_caller from flags) (within : c ≤ 15) (d : Job) (t : Result Kept Refusal) (h : Keeps t buffer (get_or jobs c d).places) (r : Served)
        (e : outcome_of r ≡ service_at buffer (get_or jobs c d)) where
      some-ok : (x : Result Kept Refusal) (k : Kept) → result_ok x ≡ Some k → x ≡ Ok k
      some-ok (Ok y) k q = cc
      some-ok (Err y) k q = none-some k q

      -- what is kept after it
      keeps-after : length flags ≡ 16 → length jobs ≡ 16 → length kept ≡ 16
          → ((b : ℕ) (x : Job) (k : Kept) → b < 16 → flagged flags b ≡ true → get_or kept b None ≡ Some k → Keeps (Ok k) buffer (get_or jobs b x).places)
          → (b : ℕ) (x : Job) (k : Kept) → b < 16 → flagged (set flags c (waits_on r)) b ≡ true → get_or (set kept c (result_ok t)) b None ≡ Some k
          → Keeps (Ok k) buffer (get_or (set jobs c (job_after (get_or jobs c d) r)) b x).places
      keeps-after lf lj lk old b x k l f q =
          let now : Job = job_after (get_or jobs c d) r in
          ⊎_elim
          (λ (s : b ≡ c).
          let p : (get_or (set jobs c now) b x).places ≡ (get_or jobs c d).places =
          ap (λ (i : ℕ). (get_or (set jobs c now) i x).places) s
          ∙ ap (λ (j : Job). j.places) (get_or-set_same jobs c now x (omega (arith, lj, within)))
          ∙ places-stay t buffer (get_or jobs c d) h r e in
          let y : get_or (set kept c (result_ok t)) b None ≡ result_ok t =
          ap (λ (i : ℕ). get_or (set kept c (result_ok t)) i None) s ∙ get_or-set_same kept c (result_ok t) None (omega (arith, lk, within)) in
          subst (λ (m : Places). Keeps (Ok k) buffer m) (sym p) (subst (λ (m : Result Kept Refusal). Keeps m buffer (get_or jobs c d).places) (some-ok t k (sym y ∙ q)) h))
          (λ (s : b ≢ c).
          let y : get_or (set kept c (result_ok t)) b None ≡ get_or kept b None = get_or-set_other kept c b (result_ok t) None s in
          let j : get_or (set jobs c now) b x ≡ get_or jobs b x = get_or-set_other jobs c b now x s in
          subst (λ (m : Job). Keeps (Ok k) buffer m.places) (sym j)
          (old b x k l (sym (get_or-set_other flags c b (waits_on r) false s) ∙ f) (sym y ∙ q)))
          (eq-or-ne b c)

      turn_suc : (n v : ℕ) → v ≡ told_after (get_or verdicts c 0) r → Turn quota start from flags jobs kept verdicts (suc n)
          → Turn quota start (c + 1) (set flags c (waits_on r)) (set jobs c (job_after (get_or jobs c d) r)) (set kept c (result_ok t)) (set verdicts c v) n
      unfolding operations.noted
      turn_suc n v ev u =
          let lf = u.flag-count in
          let lj = u.job-count in
          let s = serve-step from flags jobs c is-next within lf lj d r e n in
          let l : length (serve 16 work (suc n) (standing from flags jobs)).0 ≡ suc (length (serve 16 work n (standing (c + 1) (set flags c (waits_on r)) (set jobs c (job_after (get_or jobs c d) r)))).0) =
          ap (λ (x : List (Service ℕ) × State Job). length x.0) s in
          record {
            most = omega (arith, u.most);
            flag-count = length-set flags c (waits_on r) ∙ lf;
            job-count = length-set jobs c (job_after (get_or jobs c d) r) ∙ lj;
            kept-count = length-set kept c (result_ok t) ∙ u.kept-count;
            keeps = keeps-after lf lj u.kept-count u.keeps;
            state = sym (ap (λ (x : List (Service ℕ) × State Job). x.1) s) ∙ u.state;
            count = omega (arith, u.most, u.count, l);
            told =
                ap (λ (vs : List ℕ). operations.noted vs (serve 16 work n (standing (c + 1) (set flags c (waits_on r)) (set jobs c (job_after (get_or jobs c d) r)))).0)
                (ap (set verdicts c) ev ∙ told_is from flags jobs c is-next within lf lj d r e verdicts)
                ∙ sym (ap (λ (x : List (Service ℕ) × State Job). operations.noted verdicts x.0) s)
                ∙ u.told;
          }

      -- with what the code has put
      pub turn_more : (left v n : ℕ) (b : Bool) (j : Job) (k : RustOption Kept) → 0 < left → v ≡ told_after (get_or verdicts c 0) r → b ≡ waits_on r
          → j ≡ job_after (get_or jobs c d) r → k ≡ result_ok t → n ≡ left - 1 → Turn quota start from flags jobs kept verdicts left
          → Turn quota start (c + 1) (set flags c b) (set jobs c j) (set kept c k) (set verdicts c v) n
      turn_more left v n b j k l ev eb ej ek en u =
          let q : left ≡ suc n = omega (arith, l, en) in
          rw (eb, ej, ek) (turn_suc n v ev (subst (λ (i : ℕ). Turn quota start from flags jobs kept verdicts i) q u))
