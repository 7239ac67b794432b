-- The operations on bytes, by what those on the state answer.
-- Assumes nothing.
use mathlib.Core.Path.{◌≡◌, sym, ap, ap₂, ◌∙◌}
use mathlib.Core.List.{List, [], ◌∷◌}
use mathlib.Core.Option.{Option, none, some}
use Prim.Native.Nat.{ℕ}
use lib.ListN.{length}
use Rattle.refusal.specs.Outcome.{Answer, refusal, success}
use Rattle.schedule.specs.Schedule.{State, Service, empty}
use Rattle.shared.specs.declared.Places.{Places}
use Rattle.shared.specs.declared.Job.{Job}
use Rattle.shared.specs.declared.Shared.{Shared}
use Rattle.shared.specs.Service.{unless_refused}
use Rattle.shared.specs.StateSteps.{state_of, refusal_of, state_left}
use Rattle.shared.specs.Operations.{enter_refusal, entered, work_after_entry, call_refusal, called, verdicts_of, work_after_call}
use Rattle.state_bytes.specs.Bytes.{decode_state, encode_state}
use Rattle.shared_bytes.specs.Operations.{start_op, places_of, enter_op, call_op}
use Rattle.shared_bytes.specs.Answers.{enter_paper, check_paper}
use Rattle.std.specs.Prelude.{Result, Ok, Err}
use Rattle.refusal.specs.declared.Refusal.{Refusal}
use Rattle.refusal.specs.Refusal.{number_of}
use Rattle.calling.specs.declared.Called.{Called}
use Rattle.calling.specs.Steps.{state_told, count_told, verdicts_told}

pub start-done : (x : List ℕ) (s : Shared) → state_of s ≡ empty → x ≡ encode_state (state_of s) → x ∷ [] ≡ start_op.left
unfolding start_op
start-done x s e p = ap (λ (y : List ℕ). y ∷ []) (p ∙ ap encode_state e)

module _ (b : List ℕ) (c : ℕ) (places buffer work : List ℕ) (s : Shared) (p : Places) (from : state_of s ≡ decode_state b) (named : p ≡ places_of places)
    (r : Result Shared Refusal) (w : List ℕ)
    (answer : (refusal_of r ≡ enter_refusal c p buffer work (state_of s)) × ((state_left s r ≡ entered c p buffer work (state_of s)) × (w ≡ work_after_entry c p buffer work (state_of s)))) where
  enter-is : refusal_of r ≡ enter_refusal c (places_of places) buffer work (decode_state b)
  enter-is = answer.0 ∙ ap₂ (λ (q : Places) (z : State Job). enter_refusal c q buffer work z) named from

  enter-work : w ≡ work_after_entry c (places_of places) buffer work (decode_state b)
  enter-work = answer.1.1 ∙ ap₂ (λ (q : Places) (z : State Job). work_after_entry c q buffer work z) named from

  pub enter-refused : (k : Refusal) → r ≡ Err k
      → (enter_paper (Err k) ≡ (enter_op b c places buffer work).answer) × (b ∷ w ∷ [] ≡ (enter_op b c places buffer work).left)
  unfolding enter_op
  enter-refused k q =
      let e : some (number_of k) ≡ enter_refusal c (places_of places) buffer work (decode_state b) = sym (ap refusal_of q) ∙ enter-is in (
        ap (λ (o : Option ℕ). unless_refused o refusal (success [])) e,
        ap₂ (λ (x y : List ℕ). x ∷ y ∷ [])
            (ap (λ (o : Option ℕ). unless_refused o (λ (m : ℕ). b) (encode_state (entered c (places_of places) buffer work (decode_state b)))) e)
            enter-work,
      )

  pub enter-done : (x : List ℕ) (t : Shared) → r ≡ Ok t → x ≡ encode_state (state_of t)
      → (enter_paper (Ok tt) ≡ (enter_op b c places buffer work).answer) × (x ∷ w ∷ [] ≡ (enter_op b c places buffer work).left)
  unfolding enter_op
  enter-done x t o q =
      let e : none ≡ enter_refusal c (places_of places) buffer work (decode_state b) = sym (ap refusal_of o) ∙ enter-is in
      let f : x ≡ encode_state (entered c (places_of places) buffer work (decode_state b))
      = q ∙ ap encode_state (sym (ap (state_left s) o) ∙ answer.1.0 ∙ ap₂ (λ (q : Places) (z : State Job). entered c q buffer work z) named from) in (
        ap (λ (o : Option ℕ). unless_refused o refusal (success [])) e,
        ap₂ (λ (x y : List ℕ). x ∷ y ∷ [])
            (f ∙ ap (λ (o : Option ℕ). unless_refused o (λ (m : ℕ). b) (encode_state (entered c (places_of places) buffer work (decode_state b)))) e)
            enter-work,
      )

module _ (b : List ℕ) (quota : ℕ) (buffer verdicts work : List ℕ) (s : Shared) (from : state_of s ≡ decode_state b)
    (r : Result Called Refusal) (w : List ℕ)
    (answer : (refusal_of r ≡ call_refusal quota work (state_of s)) × ((state_told s r ≡ (called quota buffer work (state_of s)).1) × ((count_told r ≡ length (called quota buffer work (state_of s)).0) × ((verdicts_told r ≡ verdicts_of (called quota buffer work (state_of s)).0) × (w ≡ work_after_call quota work (state_of s)))))) where
  call-is : refusal_of r ≡ call_refusal quota work (decode_state b)
  call-is = answer.0 ∙ ap (call_refusal quota work) from

  call-work : w ≡ work_after_call quota work (decode_state b)
  call-work = answer.1.1.1.1 ∙ ap (work_after_call quota work) from

  abbrev result : List (Service ℕ) × State Job
  result = called quota buffer work (decode_state b)

  abbrev told : Option ℕ → Answer
  told o = unless_refused o refusal (success (length result.0 ∷ []))

  abbrev leaves : Option ℕ → List (List ℕ)
  leaves o =
      unless_refused o (λ (m : ℕ). b) (encode_state result.1) ∷ unless_refused o (λ (m : ℕ). verdicts) (verdicts_of result.0)
      ∷ work_after_call quota work (decode_state b) ∷ []

  pub call-refused : (k : Refusal) → r ≡ Err k
      → (check_paper (Err k) ≡ (call_op b quota buffer verdicts work).answer) × (b ∷ verdicts ∷ w ∷ [] ≡ (call_op b quota buffer verdicts work).left)
  unfolding call_op
  call-refused k q =
      let e : some (number_of k) ≡ call_refusal quota work (decode_state b) = sym (ap refusal_of q) ∙ call-is in
      (ap told e, ap (λ (y : List ℕ). b ∷ verdicts ∷ y ∷ []) call-work ∙ ap leaves e)

  pub call-done : (x : List ℕ) (t : Called) → r ≡ Ok t → x ≡ encode_state (state_of t.state)
      → (check_paper (Ok t.count) ≡ (call_op b quota buffer verdicts work).answer) × (x ∷ t.verdicts ∷ w ∷ [] ≡ (call_op b quota buffer verdicts work).left)
  unfolding call_op
  call-done x t o q =
      let e : none ≡ call_refusal quota work (decode_state b) = sym (ap refusal_of o) ∙ call-is in
      let f : x ≡ encode_state result.1 = q ∙ ap encode_state (sym (ap (state_told s) o) ∙ answer.1.0 ∙ ap (λ (z : State Job). (called quota buffer work z).1) from) in
      let g : t.verdicts ≡ verdicts_of result.0 = sym (ap verdicts_told o) ∙ answer.1.1.1.0 ∙ ap (λ (z : State Job). verdicts_of (called quota buffer work z).0) from in
      let h : t.count ≡ length result.0 = sym (ap count_told o) ∙ answer.1.1.0 ∙ ap (λ (z : State Job). length (called quota buffer work z).0) from in (
        ap (λ (m : ℕ). success (m ∷ [])) h ∙ ap told e,
        ap₂ (λ (x y : List ℕ). x ∷ y ∷ w ∷ []) f g ∙ ap (λ (y : List ℕ). encode_state result.1 ∷ verdicts_of result.0 ∷ y ∷ []) call-work ∙ ap leaves e,
      )
