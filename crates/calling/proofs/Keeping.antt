-- What a call keeps of the tests of a caller's bytes, and one service with it.
-- Assumes nothing.
use mathlib.Core.Path.{◌≡◌, refl, sym, ap, ◌∙◌, subst}
use mathlib.Core.Bool.{true, false}
use mathlib.Core.List.{List}
use mathlib.Core.Option.{some}
use Prim.Native.Nat.{ℕ, ◌<◌}
use native.Mathlib.Omega.{arith}
use lib.ListN.{length}
use Rattle.schedule.specs.Schedule.{Outcome, finished}
use Rattle.proof_tests.specs.declared.Shape.{Shape}
use Rattle.shared.specs.declared.Places.{Places}
use Rattle.shared.specs.declared.Job.{Job}
use Rattle.std.specs.Prelude.{Result, Ok, Err}
use Rattle.refusal.specs.declared.Refusal.{Refusal}
use Rattle.refusal.specs.Refusal.{number_of}
use Rattle.refusal.proofs.Laws.{number_of-range}
use Rattle.shared.specs.declared.Served.{Served}
use Rattle.shared.specs.declared.Served.TheVariants.{GoesOn, Finished}
use Rattle.shared.specs.Service.{all_inside, entry_at, service_at}
use Rattle.shared.specs.StateSteps.{refusal_of}
use Rattle.shared.specs.Steps.{outcome_of, Looking, instance_at}
use Rattle.shared.proofs.Onward as onward
use Rattle.shared.proofs.Onward.{kept-service}
use Rattle.shared.proofs.Services.{service-refused, service-ready, ready_at}
use Rattle.shared.specs.Steps.{ReadyAt}
use Rattle.refusal.specs.declared.Refusal.TheVariants.{BufferLength}
use Rattle.calling.specs.declared.Kept.{Kept}
use Rattle.calling.specs.Steps.{Keeps, job_after}

module _ (buffer : List ℕ) (p : Places) where
  outside : all_inside buffer p ≡ false → some 6 ≡ entry_at buffer p
  unfolding entry_at
  outside e = rw e

  -- a refusal keeps nothing
  keeps-none : (k : Refusal) → some (number_of k) ≡ entry_at buffer p → Keeps (Err k) buffer p
  keeps-none k e = record { entry = e; passes = λ x q. let z : ◌≡◌ {A = ℕ} 0 1 = cc in absurd (omega arith) }

  -- places outside
  pub keeps_outside : all_inside buffer p ≡ false → Keeps (Err BufferLength) buffer p
  keeps_outside e = keeps-none BufferLength (outside e)

  -- bytes that are refused
  pub keeps-refused : (r : Result Shape Refusal) (k : Refusal) → r ≡ Err k → refusal_of r ≡ entry_at buffer p → Keeps (Err k) buffer p
  keeps-refused r k q e = keeps-none k (sym (ap refusal_of q) ∙ e)

  -- bytes that pass
  pub keeps-ready : (r : Result Shape Refusal) (f : Shape) (table marks : List ℕ) → r ≡ Ok f → refusal_of r ≡ entry_at buffer p → Looking r buffer p table marks
      → all_inside buffer p ≡ true → length table ≡ 512 → length marks ≡ 1024
      → Keeps (Ok (record { shape = f; table = table; marks = marks })) buffer p
  keeps-ready r f table marks q e h i a b =
      let y : ReadyAt f buffer p table marks = ready_at r f buffer p table marks h q i a b in
      record { entry = sym (ap refusal_of q) ∙ e; passes = λ x o. subst (λ (k : Kept). ReadyAt k.shape buffer p k.table k.marks) (same-ok o) y }
    where
      same-ok : {x y : Kept} → ◌≡◌ {A = Result Kept Refusal} (Ok x) (Ok y) → x ≡ y
      same-ok o = cc

-- with what the tests answer, a service of a proof
module _ (t : Result Kept Refusal) (buffer : List ℕ) (job : Job) (h : Keeps t buffer job.places) where
  pub kept-refused : (k : Refusal) → t ≡ Err k → finished (number_of k) ≡ service_at buffer job
  kept-refused k e = service-refused buffer job (number_of k) (sym (ap refusal_of e) ∙ h.entry) (finished (number_of k)) refl

  pub kept-ready : (k : Kept) → t ≡ Ok k → (o : Outcome Job ℕ) → o ≡ instance_at buffer job → o ≡ service_at buffer job
  kept-ready k e o q = service-ready buffer job (sym (ap refusal_of e) ∙ h.entry) o q

  -- its bytes are refused with no 255
  none-255 : (n : ℕ) → entry_at buffer job.places ≡ some n → n < 255
  none-255 n e = by-case t (h.entry ∙ e)
    where
      by-case : (x : Result Kept Refusal) → refusal_of x ≡ some n → n < 255
      by-case (Ok k) q = let z : ◌≡◌ {A = ℕ} 0 1 = cc in absurd (omega arith)
      by-case (Err k) q = let z : number_of k ≡ n = cc in omega (arith, (number_of-range k).1)

  -- a proof that goes on has its places
  pub places-stay : (r : Served) → outcome_of r ≡ service_at buffer job → (job_after job r).places ≡ job.places
  unfolding onward.Kept
  places-stay (GoesOn next) e = subst (onward.Kept job.places) (sym e) (kept-service buffer job none-255)
  places-stay (Finished verdict) e = refl
