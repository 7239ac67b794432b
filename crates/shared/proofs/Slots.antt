-- Laws of the code's state.
-- Assumes nothing.
use mathlib.Core.Path.{◌≡◌, refl, ap, ◌∙◌, fun_ext}
use mathlib.Core.Bool.{Bool, true, false, cond}
use mathlib.Core.List.{List}
use mathlib.Core.Option.{Option, none, some}
use mathlib.Core.Logic.{◌≢◌, ⊎_elim}
use Prim.Native.Nat.{ℕ, zero, suc, ◌≤◌, ◌<◌}
use native.Mathlib.Omega.{arith}
use borrow.Author.Tests.{eq-eqb, ne_eqb, lt-ltb, le-ltb, le-leb, lt-leb}
use lib.Dec.{ltb}
use lib.ListN.{length, get_or, set, replicate}
use lib.Seq.{get_or-set_same, get_or-set_other}
use Rattle.bits.proofs.Numbers.{eq-or-ne}
use Rattle.schedule.specs.Schedule.{Slot, idle, waiting, is_waiting, State, empty, waits, put}
use Rattle.schedule.specs.History.{is_free, after_entry}
use Rattle.schedule.specs.Callers.{last_served}
use Rattle.schedule.specs.Steps.{flagged}
use Rattle.stepping.specs.declared.Running.{Running}
use Rattle.stepping.specs.RunningDigests.{started}
use Rattle.shared.specs.declared.Places.{Places}
use Rattle.shared.specs.declared.Job.{Job}
use Rattle.shared.specs.declared.Shared.{Shared}
use Rattle.shared.specs.Service.{all_inside, entry_at, unless_refused, job_at}
use Rattle.shared.specs.Operations.{long_work, enter_refusal, entered, work_after_entry}
use Rattle.shared.specs.Steps.{seated}
use Rattle.shared.specs.StateSteps.{nowhere, slot_of, state_of}

nobody : (k c : ℕ) → get_or (replicate {A = Bool} k false) c false ≡ false
nobody zero c = refl
nobody (suc k) zero = refl
nobody (suc k) (suc c) = nobody k c

-- the empty state
pub start-empty : (jobs : List Job) → state_of (record { begin = 0; waiting = replicate {A = Bool} 16 false; jobs = jobs }) ≡ empty
unfolding state_of slot_of last_served
start-empty jobs =
    ap (λ (f : ℕ → Slot Job). record { last = none; slot = f })
    (fun_ext λ c. ap (λ (b : Bool). cond b (waiting (get_or jobs c nowhere)) idle) (nobody 16 c))

-- who waits
pub waits-flagged : (s : Shared) (c : ℕ) → waits (state_of s) c ≡ flagged s.waiting c
unfolding state_of slot_of
waits-flagged s c = by-case (flagged s.waiting c)
  where
    by-case : (b : Bool) → is_waiting (cond b (waiting (get_or s.jobs c nowhere)) idle) ≡ b
    by-case true = refl
    by-case false = refl

-- a flag and a proof put anew
pub slots-put : (flags : List Bool) (jobs : List Job) (c : ℕ) (b : Bool) (j : Job) → c < length flags → c < length jobs
    → slot_of (set flags c b) (set jobs c j) ≡ put (slot_of flags jobs) c (cond b (waiting j) idle)
unfolding slot_of put
slots-put flags jobs c b j l m =
    fun_ext λ k.
    ⊎_elim
    (λ (q : k ≡ c). rw (q, eq-eqb c c refl, get_or-set_same flags c b false l, get_or-set_same jobs c j nowhere m))
    (λ (q : k ≢ c). rw (ne_eqb k c q, get_or-set_other flags c k b false q, get_or-set_other jobs c k j nowhere q))
    (eq-or-ne k c)

pub state-put : (s : Shared) (c : ℕ) (j : Job) (flags : List Bool) (jobs : List Job) → flags ≡ set s.waiting c true → jobs ≡ set s.jobs c j
    → c < length s.waiting → c < length s.jobs
    → state_of (record { begin = s.begin; waiting = flags; jobs = jobs }) ≡ record { last = (state_of s).last; slot = put (state_of s).slot c (waiting j) }
unfolding state_of
state-put s c j flags jobs ef ej l m = rw (ef, ej, slots-put s.waiting s.jobs c true j l m)

-- a proof that enters
pub job-made : (p : Places) (d : Running) → d ≡ started → record { places = p; next = 0; digests = d } ≡ job_at p
unfolding job_at
job-made p d e = rw e

-- a proof in its slot
pub seat-made : (s : Shared) (c : ℕ) (j : Job) (flags : List Bool) (jobs : List Job) → c < 16 → (flags ≡ set s.waiting c true) × (length s.waiting ≡ 16)
    → (jobs ≡ set s.jobs c j) × (length s.jobs ≡ 16) → state_of (record { begin = s.begin; waiting = flags; jobs = jobs }) ≡ seated (state_of s) c j
unfolding seated
seat-made s c j flags jobs l f g = state-put s c j flags jobs f.0 g.0 (omega (arith, f.1)) (omega (arith, g.1))

-- the answer of an entry, by what its bytes say
pub at-refused : (e o : Option ℕ) (k : ℕ) (s t x : State Job) → some k ≡ e → o ≡ some k → t ≡ s → (o ≡ e) × (t ≡ unless_refused e (λ m. s) x)
at-refused e o k s t x q r u = (r ∙ q, u ∙ ap (λ (y : Option ℕ). unless_refused y (λ m. s) x) q)

pub at-taken : (e o : Option ℕ) (s t x : State Job) → none ≡ e → o ≡ none → t ≡ x → (o ≡ e) × (t ≡ unless_refused e (λ m. s) x)
at-taken e o s t x q r u = (r ∙ q, u ∙ ap (λ (y : Option ℕ). unless_refused y (λ m. s) x) q)

-- an entry, by its tests
module _ (c : ℕ) (p : Places) (buffer work : List ℕ) (s : Shared) where
  -- its refusal, its state and its work buffer
  abbrev Entering : Option ℕ → State Job → List ℕ → Type 0
  Entering o t w =
      (o ≡ enter_refusal c p buffer work (state_of s)) × ((t ≡ entered c p buffer work (state_of s)) × (w ≡ work_after_entry c p buffer work (state_of s)))

  pub enter-beyond : (o : Option ℕ) (t : Shared) → 15 < c → (o ≡ some 26) × (t ≡ s) → Entering o (state_of t) work
  unfolding enter_refusal entered work_after_entry
  enter-beyond o t l r =
      let a = le-ltb c 16 l in
      (rw a r.0, (rw a (ap state_of r.1), rw a))

  module _ (l : c ≤ 15) where
    within : ltb c 16 ≡ true
    within = lt-ltb c 16 (omega arith)

    pub enter-waiting : (o : Option ℕ) (t : Shared) → flagged s.waiting c ≡ true → (o ≡ some 27) × (t ≡ s) → Entering o (state_of t) work
    unfolding enter_refusal entered work_after_entry
    enter-waiting o t f r =
        let b = waits-flagged s c ∙ f in
        (rw (within, b) r.0, (rw (within, b) (ap state_of r.1), rw (within, b)))

    module _ (f : flagged s.waiting c ≡ false) where
      idle-now : waits (state_of s) c ≡ false
      idle-now = waits-flagged s c ∙ f

      pub enter-outside : (o : Option ℕ) (t : Shared) → all_inside buffer p ≡ false → (o ≡ some 6) × (t ≡ s) → Entering o (state_of t) work
      unfolding enter_refusal entered work_after_entry
      enter-outside o t i r = (rw (within, idle-now, i) r.0, (rw (within, idle-now, i) (ap state_of r.1), rw (within, idle-now, i)))

      module _ (i : all_inside buffer p ≡ true) where
        pub enter-short : (o : Option ℕ) (t : Shared) → length work < 6436864 → (o ≡ some 6) × (t ≡ s) → Entering o (state_of t) work
        unfolding enter_refusal entered work_after_entry long_work
        enter-short o t u r =
            let v = lt-leb 6436864 (length work) u in
            (rw (within, idle-now, i, v) r.0, (rw (within, idle-now, i, v) (ap state_of r.1), rw (within, idle-now, i, v)))

        pub enter-tested : (o : Option ℕ) (t : State Job) (w : List ℕ) → 6436864 ≤ length work
            → (o ≡ entry_at buffer p) × (t ≡ unless_refused (entry_at buffer p) (λ m. state_of s) (seated (state_of s) c (job_at p))) → w ≡ replicate (length work) 0
            → Entering o t w
        unfolding enter_refusal entered work_after_entry long_work seated after_entry is_free
        enter-tested o t w u r x =
            let v = le-leb 6436864 (length work) u in
            (rw (within, idle-now, i, v) r.0, (rw (within, idle-now, i, v) r.1, rw (within, idle-now, i, v) x))
