-- The status and the length of an answer of small, case by case; different answers are told apart.
-- Assumes nothing.
use mathlib.Core.Path.{◌≡◌, refl, sym, ap, ◌∙◌}
use mathlib.Core.List.{List, [], ◌∷◌}
use Prim.Native.Nat.{ℕ, ◌≤◌}
use native.Mathlib.Omega.{arith}
use Rattle.refusal.specs.Refusal.{number_of}
use Rattle.refusal.specs.declared.Refusal.{Refusal}
use Rattle.refusal.specs.Outcome.{success, Outcome}
use Rattle.refusal.proofs.Laws.{number_of-injective, number_of-range}
use Rattle.std.specs.Prelude.{Option, Some, None, Result, Ok, Err}
use Rattle.std.specs.Option.{unwrap_or}
use Rattle.small.specs.Answers.{lengths, paper, outcome}
use Rattle.small.proofs.Writes.{never-empty}
use Rattle.wivulameno.specs.Interface.{status, length_told}
use Rattle.wivulameno.specs.SmallAnswers.{GivenBySmall, small_reported, DifferentSmall}

-- the length that is told, 0 where the last has passed
length-said : (k : Option ℕ) (lent : List ℕ) → (unwrap_or k 0 ∷ []) ≡ length_told (success (lengths k)) lent
unfolding length_told
length-said (Some k) lent = refl
length-said None lent = refl

-- a file is written, or the last has passed
pub small-done : (o : Outcome) (r : Result (Option ℕ) Refusal) (k : Option ℕ) (n : ℕ) (b lent : List ℕ) → r ≡ Ok k → outcome r b ≡ o → n ≡ unwrap_or k 0
    → (◌≡◌ {A = ℕ} 0 (status o.answer)) × (((n ∷ []) ≡ length_told o.answer lent) × ((b ∷ []) ≡ o.left))
unfolding status
small-done o r k n b lent e f h =
    let g : outcome (Ok k) b ≡ o = ap (λ (x : Result (Option ℕ) Refusal). outcome x b) (sym e) ∙ f in
    (ap (λ (x : Outcome). status x.answer) g, (ap (λ (i : ℕ). i ∷ []) h ∙ length-said k lent ∙ ap (λ (x : Outcome). length_told x.answer lent) g, ap (λ (x : Outcome). x.left) g))

-- a refusal
pub small-refused : (o : Outcome) (r : Result (Option ℕ) Refusal) (k : Refusal) (n : ℕ) (b lent : List ℕ) → r ≡ Err k → outcome r b ≡ o → n ≡ number_of k
    → (n ≡ status o.answer) × ((lent ≡ length_told o.answer lent) × ((b ∷ []) ≡ o.left))
unfolding status length_told
small-refused o r k n b lent e f h =
    let g : outcome (Err k) b ≡ o = ap (λ (x : Result (Option ℕ) Refusal). outcome x b) (sym e) ∙ f in
    (h ∙ ap (λ (x : Outcome). status x.answer) g, (ap (λ (x : Outcome). length_told x.answer lent) g, ap (λ (x : Outcome). x.left) g))

-- no refusal has the number 0
not-zero : {A : Type 0} (k : Refusal) → ◌≡◌ {A = ℕ} 0 (number_of k) → A
not-zero k e = absurd (omega (arith, number_of-range k))

-- the paper's terms tell the answers apart
pub small-paper : (a b : Result (Option ℕ) Refusal) → paper a ≡ paper b → a ≡ b
small-paper (Ok (Some x)) (Ok (Some y)) e = let f : x ≡ y = cc in ap (λ (i : ℕ). Ok (Some i)) f
small-paper (Ok (Some x)) (Ok None) e = absurd (let z : ◌≡◌ {A = ℕ} 0 1 = cc in omega arith)
small-paper (Ok (Some x)) (Err k) e = absurd (let z : ◌≡◌ {A = ℕ} 0 1 = cc in omega arith)
small-paper (Ok None) (Ok (Some y)) e = absurd (let z : ◌≡◌ {A = ℕ} 0 1 = cc in omega arith)
small-paper (Ok None) (Ok None) e = refl
small-paper (Ok None) (Err k) e = absurd (let z : ◌≡◌ {A = ℕ} 0 1 = cc in omega arith)
small-paper (Err k) (Ok (Some y)) e = absurd (let z : ◌≡◌ {A = ℕ} 0 1 = cc in omega arith)
small-paper (Err k) (Ok None) e = absurd (let z : ◌≡◌ {A = ℕ} 0 1 = cc in omega arith)
small-paper (Err k) (Err l) e = let f : number_of k ≡ number_of l = cc in ap Err (number_of-injective k l f)

-- a length that is told is not 0
told-long : (k : ℕ) → GivenBySmall (Ok (Some k)) → 20 ≤ k
told-long k g = never-empty.long g.inputs g.outputs g.gates g.place k g.out (sym (ap (λ (o : Outcome). o.answer) g.gives))

small-status : (lent : List ℕ) (a b : Result (Option ℕ) Refusal) → GivenBySmall a → GivenBySmall b → small_reported lent a ≡ small_reported lent b → a ≡ b
unfolding status length_told
small-status lent (Ok (Some x)) (Ok (Some y)) p q e =
    let f : ◌≡◌ {A = List ℕ} (x ∷ []) (y ∷ []) = ap (λ (z : ℕ × List ℕ). z.1) e in
    let g : x ≡ y = cc in
    ap (λ (i : ℕ). Ok (Some i)) g
small-status lent (Ok (Some x)) (Ok None) p q e =
    let f : ◌≡◌ {A = List ℕ} (x ∷ []) (0 ∷ []) = ap (λ (z : ℕ × List ℕ). z.1) e in
    let g : x ≡ 0 = cc in
    absurd (omega (arith, told-long x p))
small-status lent (Ok (Some x)) (Err k) p q e = not-zero k (ap (λ (z : ℕ × List ℕ). z.0) e)
small-status lent (Ok None) (Ok (Some y)) p q e =
    let f : ◌≡◌ {A = List ℕ} (0 ∷ []) (y ∷ []) = ap (λ (z : ℕ × List ℕ). z.1) e in
    let g : y ≡ 0 = cc in
    absurd (omega (arith, told-long y q))
small-status lent (Ok None) (Ok None) p q e = refl
small-status lent (Ok None) (Err k) p q e = not-zero k (ap (λ (z : ℕ × List ℕ). z.0) e)
small-status lent (Err k) (Ok (Some y)) p q e = not-zero k (sym (ap (λ (z : ℕ × List ℕ). z.0) e))
small-status lent (Err k) (Ok None) p q e = not-zero k (sym (ap (λ (z : ℕ × List ℕ). z.0) e))
small-status lent (Err k) (Err l) p q e = ap Err (number_of-injective k l (ap (λ (z : ℕ × List ℕ). z.0) e))

pub different-small : DifferentSmall
different-small = record { statuses = small-status }
