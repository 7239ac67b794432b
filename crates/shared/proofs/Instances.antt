-- A proof whose instances are served one after the other: its verdict is the number of check's answer.
-- Assumes nothing.
use mathlib.Core.Path.{◌≡◌, refl, sym, ap, ◌∙◌, subst}
use mathlib.Core.Bool.{Bool, true, false, cond, true≢false, ◌&&◌}
use mathlib.Core.List.{List, []}
use mathlib.Core.Option.{Option, none, some}
use mathlib.Core.Logic.{◌⊎◌, inl, inr, ⊎_elim}
use Prim.Native.Nat.{ℕ, zero, suc, ◌+◌, ◌%◌, ◌≤◌, ◌<◌}
use native.Mathlib.Numerals.{add-one}
use native.Mathlib.Omega.{arith}
use borrow.Author.Tests.{lt-ltb, le-ltb}
use lib.Dec.{eqb, leb}
use lib.ListN.{length}
use Rattle.bits.specs.Bits.{unused_zero}
use Rattle.bits.specs.Bytes.{same_bytes}
use Rattle.bits.proofs.Numbers.{lt-or-le}
use Rattle.refusal.specs.Outcome as outcomes
use Rattle.refusal.specs.Outcome.{done, unless}
use Rattle.keccak.proofs.Absorbing.{Bytes}
use Rattle.circuit.specs.Circuit.{Circuit}
use Rattle.circuit.specs.File.{Reading, refused, legal, read_circuit, circuit_of}
use Rattle.circuit.specs.Operations.{holds}
use Rattle.circuit.proofs.Answered.{read_same}
use Rattle.instance.specs.Instance.{Asked}
use Rattle.seeds.proofs.Instances.{counts-fit}
use Rattle.proof.specs.File.{header_m, header_tau, header_n, header_hstar, good_header, proof_bytes}
use Rattle.circuit.specs.Operations.{work_bytes}
use Rattle.mpc.proofs.Succeeding.{work-enough}
use Rattle.proof.specs.Check.{every, check_legal, check_op}
use Rattle.proof.proofs.Passing.{every-at}
use Rattle.stepping.specs.declared.Running.{Running}
use Rattle.stepping.specs.RunningDigests.{more, hstar_in}
use Rattle.proof_tests.specs.Steps.{all_unused, output_at, commitments_at, online_at, recomputed, tested, judged, legal_tests}
use Rattle.proof_tests.proofs.Headers.{header-counts}
use Rattle.proof_tests.proofs.Outcomes.{check-tests}
use Rattle.stepping.proofs.Stepped.{running, running_none, running_more, running-room, running-end}
use Rattle.schedule.specs.Schedule.{Outcome, goes_on, finished}
use Rattle.schedule.specs.Alone.{by_outcome, alone}
use Rattle.shared.specs.declared.Places.{Places}
use Rattle.shared.specs.declared.Job.{Job}
use Rattle.shared.specs.Service.{number, but_late, on_entry, entry_of, settled_both, asks, after_instance, next_instance, instance_of, job_at}

pub none-some : {k : ℕ} → ◌≡◌ {A = Option ℕ} (some k) none → ⊥
none-some e = let z : ◌≡◌ {A = ℕ} 0 1 = cc in absurd (omega arith)

-- a test whose number is refused on entry has passed
peel : (b : Bool) (k : ℕ) (x : outcomes.Outcome) → but_late k ≡ some k → but_late (number (unless b k [] x).answer) ≡ none → b ≡ true
peel true k x h e = refl
peel false k x h e = absurd (none-some (sym h ∙ e))

pub late-6 : but_late 6 ≡ some 6
unfolding but_late
late-6 = refl

pub late-7 : but_late 7 ≡ some 7
unfolding but_late
late-7 = refl

pub late-11 : but_late 11 ≡ some 11
unfolding but_late
late-11 = refl

pub late-12 : but_late 12 ≡ some 12
unfolding but_late
late-12 = refl

-- five tests, then the rest
peel-five : (a b c d e : Bool) (x : outcomes.Outcome)
    → but_late (number (unless a 6 [] (unless b 7 [] (unless c 11 [] (unless d 12 [] (unless e 7 [] x))))).answer) ≡ none
    → (c ≡ true) × (unless a 6 [] (unless b 7 [] (unless c 11 [] (unless d 12 [] (unless e 7 [] x)))) ≡ x)
peel-five true true true true true x h = (refl, refl)
peel-five true true true true false x h = absurd (none-some (sym late-7 ∙ h))
peel-five true true true false e x h = absurd (none-some (sym late-12 ∙ h))
peel-five true true false d e x h = absurd (none-some (sym late-11 ∙ h))
peel-five true false c d e x h = absurd (none-some (sym late-7 ∙ h))
peel-five false b c d e x h = absurd (none-some (sym late-6 ∙ h))

-- bytes that are not refused on entry are of a legal circuit
entry-legal : (r : Reading) (check : Circuit → outcomes.Outcome) → on_entry r check ≡ none → (c : Circuit) × (r ≡ legal c) × (but_late (number (check c).answer) ≡ none)
entry-legal (refused k slot) check e = absurd (none-some e)
entry-legal (legal c) check e = (c, refl, e)

module _ (s y message proof : List ℕ) (bytes : Bytes proof) (free : entry_of s y message proof ≡ none) where
  abbrev c : Circuit
  c = circuit_of s

  abbrev M : ℕ
  M = header_m proof

  abbrev n : ℕ
  n = header_n proof

  abbrev ask : ℕ → Asked
  ask = asks s y message proof

  late : but_late (number (check_legal s y message proof c).answer) ≡ none
  unfolding entry_of
  late =
      let l = entry-legal (read_circuit s) (check_legal s y message proof) free in
      ap (λ (d : Circuit). but_late (number (check_legal s y message proof d).answer)) (read_same s l.0 l.1) ∙ l.2

  passed : (good_header proof ≡ true) × (legal_tests s y message proof c (judged c y proof M n ask) ≡ judged c y proof M n ask)
  unfolding legal_tests tested
  passed =
      peel-five (holds (length c.outputs) y && leb (length message) 4096) (unused_zero (length c.outputs) y) (good_header proof)
      (eqb (length proof) (proof_bytes c M n ask)) (all_unused c M n ask proof) (judged c y proof M n ask)
      (ap (λ (o : outcomes.Outcome). but_late (number o.answer)) (sym (check-tests s y message proof c)) ∙ late)

  -- the number of check's answer
  abbrev verdict : ℕ
  verdict = number (check_legal s y message proof c).answer

  verdict-is : verdict ≡ number (judged c y proof M n ask).answer
  verdict-is = ap (λ (o : outcomes.Outcome). number o.answer) (check-tests s y message proof c ∙ passed.1)

  -- it is that of the operation, with any work buffer that is long enough
  pub verdict-op : (own : List ℕ) → work_bytes c ≤ length own → number (check_op s y message proof own).answer ≡ verdict
  unfolding check_op entry_of
  verdict-op own l =
      let e = entry-legal (read_circuit s) (check_legal s y message proof) free in
      ap (λ (o : outcomes.Outcome). number o.answer)
      (work-enough s c [] own (check_legal s y message proof) (e.1 ∙ ap legal (sym (read_same s e.0 e.1))) l)

  -- there is an instance
  some-instance : 0 < M
  some-instance = omega (arith, (counts-fit (header_m proof) (header_tau proof) (header-counts proof passed.0)).least)

  abbrev outputs : ℕ → Bool
  outputs = output_at c M n ask proof y

  -- an output that differs makes all of them differ
  not-every : (i : ℕ) → i < M → outputs i ≡ false → every M outputs ≡ false
  not-every i l f = by-case (every M outputs) refl
    where
      by-case : (b : Bool) → every M outputs ≡ b → b ≡ false
      by-case true e = absurd (true≢false (sym (every-at M outputs e i l) ∙ f))
      by-case false e = refl

  -- its number is 10
  verdict-output : (i : ℕ) → i < M → outputs i ≡ false → verdict ≡ 10
  unfolding judged
  verdict-output i l f = verdict-is ∙ rw (not-every i l f)

  number_same : (b : Bool) → number (unless b 13 [] (done [])).answer ≡ cond b 0 13
  number_same true = refl
  number_same false = refl

  -- all outputs agree: the recomputed h* decides
  verdict-digest : every M outputs ≡ true → verdict ≡ cond (same_bytes (hstar_in (running c M n ask proof M)) (header_hstar proof)) 0 13
  unfolding judged
  verdict-digest e =
      verdict-is
      ∙ rw e
      (number_same (same_bytes (recomputed c M n ask proof) (header_hstar proof))
      ∙ ap (λ (h : List ℕ). cond (same_bytes h (header_hstar proof)) 0 13) (sym (running-end c M n ask proof bytes)))

  module _ (p : Places) where
    -- the job before instance i
    abbrev job : ℕ → Job
    job i = record { places = p; next = i; digests = running c M n ask proof i }

    abbrev work : Job → Outcome Job ℕ
    work = instance_of s y message proof

    both-settled : (d : Running) → (d.commitments.fill < 136) × (d.online.fill < 136) → settled_both d ≡ d
    both-settled d r =
        let a : d.commitments.fill % 136 ≡ d.commitments.fill = omega (arith, r.0) in
        let b : d.online.fill % 136 ≡ d.online.fill = omega (arith, r.1) in
        rw (a, b)

    -- one instance more in the digests
    taken_in : (i : ℕ) → more (settled_both (running c M n ask proof i)) (commitments_at c M n ask proof i) (online_at c M n ask proof i) ≡ running c M n ask proof (suc i)
    taken_in i =
        ap (λ (d : Running). more d (commitments_at c M n ask proof i) (online_at c M n ask proof i)) (both-settled (running c M n ask proof i) (running-room c M n ask proof i))
        ∙ (running_more c M n ask proof i ∙ ap (running c M n ask proof) (add-one i))

    -- its output differs
    work-output : (i : ℕ) → i < M → outputs i ≡ false → work (job i) ≡ finished 10
    unfolding instance_of next_instance
    work-output i l f = rw (lt-ltb i M l, f)

    -- it agrees
    work-agrees : (i : ℕ) → i < M → outputs i ≡ true → work (job i) ≡ after_instance proof (job i) (running c M n ask proof (suc i))
    unfolding instance_of next_instance
    work-agrees i l t = rw (lt-ltb i M l, t) (ap (after_instance proof (job i)) (taken_in i))

    after_on : (i : ℕ) → suc i < M → after_instance proof (job i) (running c M n ask proof (suc i)) ≡ goes_on (job (suc i))
    unfolding after_instance
    after_on i l = rw (lt-ltb (suc i) M l)

    after_last : (i : ℕ) → suc i ≡ M
        → after_instance proof (job i) (running c M n ask proof (suc i)) ≡ finished (cond (same_bytes (hstar_in (running c M n ask proof M)) (header_hstar proof)) 0 13)
    unfolding after_instance
    after_last i e =
        rw (le-ltb (suc i) M (omega arith))
        (ap (λ (k : ℕ). finished (cond (same_bytes (hstar_in (running c M n ask proof k)) (header_hstar proof)) 0 13)) e)

    -- by as many services as there may be: no verdict yet, or check's
    abbrev Told : ℕ → Job → Type 0
    Told k j = (alone work k j ≡ none) ⊎ (alone work k j ≡ some verdict)

    told-finished : (k v : ℕ) (j : Job) → work j ≡ finished v → verdict ≡ v → Told (suc k) j
    unfolding alone
    told-finished k v j e q = inr (ap (λ (o : Outcome Job ℕ). by_outcome o (alone work k) some) e ∙ ap some (sym q))

    told-on : (k : ℕ) (j i : Job) → work j ≡ goes_on i → Told k i → Told (suc k) j
    unfolding alone
    told-on k j i e t =
        let q : by_outcome (work j) (alone work k) some ≡ alone work k i = ap (λ (o : Outcome Job ℕ). by_outcome o (alone work k) some) e in
        ⊎_elim (λ (a : alone work k i ≡ none). inl (q ∙ a)) (λ (a : alone work k i ≡ some verdict). inr (q ∙ a)) t

    every_more : (i : ℕ) → every i outputs ≡ true → outputs i ≡ true → every (suc i) outputs ≡ true
    unfolding every
    every_more i a b = rw (a, b)

    -- the next instance agrees
    told-agrees : (k i : ℕ) → i < M → every i outputs ≡ true → outputs i ≡ true → (suc i < M → Told k (job (suc i))) → Told (suc k) (job i)
    told-agrees k i l a t ih =
        ⊎_elim
        (λ (m : suc i < M). told-on k (job i) (job (suc i)) (work-agrees i l t ∙ after_on i m) (ih m))
        (λ (m : M ≤ suc i).
        let e : suc i ≡ M = omega arith in
        told-finished k _ (job i) (work-agrees i l t ∙ after_last i e) (verdict-digest (ap (λ (x : ℕ). every x outputs) (sym e) ∙ every_more i a t)))
        (lt-or-le (suc i) M)

    told-case : (k i : ℕ) → i < M → every i outputs ≡ true → (every (suc i) outputs ≡ true → suc i < M → Told k (job (suc i))) → (b : Bool) → outputs i ≡ b
        → Told (suc k) (job i)
    told-case k i l a ih true t = told-agrees k i l a t (ih (every_more i a t))
    told-case k i l a ih false f = told-finished k 10 (job i) (work-output i l f) (verdict-output i l f)

    told : (k i : ℕ) → i < M → every i outputs ≡ true → Told k (job i)
    unfolding alone
    told zero i l a = inl refl
    told (suc k) i l a = told-case k i l a (λ e m. told k (suc i) m e) (outputs i) refl

    start-job : job 0 ≡ job_at p
    unfolding job_at
    start-job = ap (λ (d : Running). record { places = p; next = 0; digests = d }) (sym (running_none c M n ask proof))

    every-zero : every 0 outputs ≡ true
    unfolding every
    every-zero = refl

    -- a proof that enters
    pub told-alone : (k : ℕ) → (alone work k (job_at p) ≡ none) ⊎ (alone work k (job_at p) ≡ some verdict)
    told-alone k = subst (Told k) start-job (told k 0 some-instance every-zero)

    -- with as many services as it has instances it has its verdict
    abbrev Ends : ℕ → Job → Type 0
    Ends k j = alone work k j ≡ some verdict

    ends-finished : (k v : ℕ) (j : Job) → work j ≡ finished v → verdict ≡ v → Ends (suc k) j
    unfolding alone
    ends-finished k v j e q = ap (λ (o : Outcome Job ℕ). by_outcome o (alone work k) some) e ∙ ap some (sym q)

    ends_on : (k : ℕ) (j i : Job) → work j ≡ goes_on i → Ends k i → Ends (suc k) j
    unfolding alone
    ends_on k j i e t = ap (λ (o : Outcome Job ℕ). by_outcome o (alone work k) some) e ∙ t

    ends-agrees : (k i : ℕ) → i < M → every i outputs ≡ true → outputs i ≡ true → (suc i < M → Ends k (job (suc i))) → Ends (suc k) (job i)
    ends-agrees k i l a t ih =
        ⊎_elim
        (λ (m : suc i < M). ends_on k (job i) (job (suc i)) (work-agrees i l t ∙ after_on i m) (ih m))
        (λ (m : M ≤ suc i).
        let e : suc i ≡ M = omega arith in
        ends-finished k _ (job i) (work-agrees i l t ∙ after_last i e) (verdict-digest (ap (λ (x : ℕ). every x outputs) (sym e) ∙ every_more i a t)))
        (lt-or-le (suc i) M)

    ends-case : (k i : ℕ) → i < M → every i outputs ≡ true → (every (suc i) outputs ≡ true → suc i < M → Ends k (job (suc i))) → (b : Bool) → outputs i ≡ b
        → Ends (suc k) (job i)
    ends-case k i l a ih true t = ends-agrees k i l a t (ih (every_more i a t))
    ends-case k i l a ih false f = ends-finished k 10 (job i) (work-output i l f) (verdict-output i l f)

    ends : (k i : ℕ) → i < M → every i outputs ≡ true → M ≤ i + k → Ends k (job i)
    ends zero i l a u = absurd (omega arith)
    ends (suc k) i l a u = ends-case k i l a (λ e m. ends k (suc i) m e (omega arith)) (outputs i) refl

    pub ends-alone : (k : ℕ) → M ≤ k → alone work k (job_at p) ≡ some verdict
    ends-alone k u = subst (Ends k) start-job (ends k 0 some-instance every-zero (omega arith))
