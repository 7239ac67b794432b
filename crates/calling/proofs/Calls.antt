-- A call in the code, by its cases.
-- Assumes nothing.
use mathlib.Core.Path.{◌≡◌, refl, sym, ap, ◌∙◌}
use mathlib.Core.Bool.{Bool, true, false, ◌&&◌}
use mathlib.Core.List.{List, []}
use mathlib.Core.Option.{Option, none, some}
use Prim.Native.Nat.{ℕ, ◌≤◌, ◌<◌}
use borrow.Author.Tests.{le-leb, lt-leb}
use lib.Dec.{leb}
use lib.ListN.{length, replicate}
use Rattle.std.specs.Prelude.{Result, Ok, Err}
use Rattle.refusal.specs.declared.Refusal.{Refusal}
use Rattle.refusal.specs.declared.Refusal.TheVariants.{BufferLength, Parameter, NoneWaiting}
use Rattle.refusal.specs.Refusal.{number_of}
use Rattle.schedule.specs.Schedule.{State, Service, waits, next, serve}
use Rattle.schedule.specs.Steps.{next_caller}
use Rattle.schedule.proofs.Flags.{nobody-next, somebody-next}
use Rattle.shared.specs.declared.Job.{Job}
use Rattle.shared.specs.declared.Shared.{Shared}
use Rattle.shared.specs.Service.{unless_refused, service_at}
use Rattle.shared.specs.StateSteps.{state_of, refusal_of}
use Rattle.shared.specs.Operations.{long_work, call_refusal, called, noted, verdicts_of, work_after_call}
use Rattle.calling.specs.declared.Called.{Called}
use Rattle.calling.specs.Steps.{Replies, state_told, count_told, verdicts_told}
use Rattle.calling.proofs.Turns.{next-is}

module _ (s : Shared) (quota : ℕ) (buffer work : List ℕ) where
  -- what the code promises of a call
  abbrev Calling : Result Called Refusal → List ℕ → Type 0
  Calling r w =
      (refusal_of r ≡ call_refusal quota work (state_of s))
      × ((state_told s r ≡ (called quota buffer work (state_of s)).1)
      × ((count_told r ≡ length (called quota buffer work (state_of s)).0)
      × ((verdicts_told r ≡ verdicts_of (called quota buffer work (state_of s)).0)
      × (w ≡ work_after_call quota work (state_of s)))))

  -- an answer tells of these services, and of the state that they leave
  abbrev Tells : Result Called Refusal → List (Service ℕ) × State Job → Type 0
  Tells r x = (state_told s r ≡ x.1) × ((count_told r ≡ length x.0) × (verdicts_told r ≡ verdicts_of x.0))

  -- with this refusal, these services and this state, and this work buffer
  calling-is : (r : Result Called Refusal) (w v : List ℕ) (o : Option ℕ) (x : List (Service ℕ) × State Job) → call_refusal quota work (state_of s) ≡ o
      → called quota buffer work (state_of s) ≡ x → work_after_call quota work (state_of s) ≡ v → refusal_of r ≡ o → Tells r x → w ≡ v → Calling r w
  calling-is r w v o x eo ex ew q y z =
      (q ∙ sym eo, (y.0 ∙ sym (ap (λ (i : List (Service ℕ) × State Job). i.1) ex), (y.1.0 ∙ sym (ap (λ (i : List (Service ℕ) × State Job). length i.0) ex), (y.1.1 ∙ sym (ap (λ (i : List (Service ℕ) × State Job). verdicts_of i.0) ex), z ∙ sym ew))))

  refused-with : (k : Refusal) → call_refusal quota work (state_of s) ≡ some (number_of k) → Calling (Err k) work
  unfolding called work_after_call noted
  refused-with k e =
      calling-is (Err k) work work (some (number_of k)) ([], state_of s) e
      (ap (λ (o : Option ℕ). unless_refused o (λ (m : ℕ). ([], state_of s)) (serve 16 (λ c. service_at buffer) quota (state_of s))) e)
      (ap (λ (o : Option ℕ). unless_refused o (λ (m : ℕ). work) (replicate (length work) 0)) e) refl (refl, (refl, refl)) refl

  -- the quota's test
  abbrev Named : Bool
  Named = leb 1 quota && leb quota 512

  pub quota-beyond : Named ≡ false → Calling (Err Parameter) work
  unfolding call_refusal
  quota-beyond e = refused-with Parameter (rw e)

  module _ (named : Named ≡ true) where
    pub nobody-waits : 15 < next_caller s.begin s.waiting → Calling (Err NoneWaiting) work
    unfolding call_refusal
    nobody-waits h =
        refused-with NoneWaiting (rw (named, next-is buffer s.begin s.waiting s.jobs ∙ nobody-next s.begin s.waiting h))

    module _ (h : next_caller s.begin s.waiting ≤ 15) where
      someone : next 16 (state_of s).last (waits (state_of s)) ≡ some (next_caller s.begin s.waiting)
      someone = next-is buffer s.begin s.waiting s.jobs ∙ somebody-next s.begin s.waiting h

      pub short-work : length work < 6436864 → Calling (Err BufferLength) work
      unfolding call_refusal long_work
      short-work l = refused-with BufferLength (rw (named, someone, lt-leb 6436864 (length work) l))

      accepted : 6436864 ≤ length work → call_refusal quota work (state_of s) ≡ none
      unfolding call_refusal long_work
      accepted l = rw (named, someone, le-leb 6436864 (length work) l)

      pub call-made : (r : Called) (w : List ℕ) → 6436864 ≤ length work
          → Replies r (serve 16 (λ c. service_at buffer) quota (state_of s)) → w ≡ replicate (length work) 0 → Calling (Ok r) w
      unfolding called work_after_call
      call-made r w l q z =
          let e = accepted l in
          calling-is (Ok r) w (replicate (length work) 0) none (serve 16 (λ c. service_at buffer) quota (state_of s)) e
          (ap (λ (o : Option ℕ). unless_refused o (λ (m : ℕ). ([], state_of s)) (serve 16 (λ c. service_at buffer) quota (state_of s))) e)
          (ap (λ (o : Option ℕ). unless_refused o (λ (m : ℕ). work) (replicate (length work) 0)) e) refl q z
