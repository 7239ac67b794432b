-- What an operation that succeeds has passed.
-- Assumes nothing.
use mathlib.Core.Path.{◌≡◌, refl, ap, ap₂, ◌∙◌}
use mathlib.Core.Bool.{Bool, true, false}
use mathlib.Core.List.{List, [], ◌∷◌, ◌++◌}
use Prim.Native.Nat.{ℕ, ◌≤◌}
use native.Mathlib.Omega.{arith}
use borrow.Author.Tests.{le-leb, leb-true}
use lib.Dec.{leb}
use lib.ListN.{length, replicate, length-append}
use Rattle.refusal.specs.Outcome.{Answer, refusal, success, Outcome, refuses, unless}
use Rattle.circuit.specs.Circuit.{Circuit}
use Rattle.circuit.specs.File.{Reading, refused, legal, read_circuit}
use Rattle.circuit.specs.Operations.{work_bytes, leaving, on_legal_work}

-- the outcome of a success
abbrev pub succeeded : List ℕ → List (List ℕ) → Outcome
succeeded vs left = record { answer = success vs; left = left }

-- a refusal is no success
pub refused-not : (k : ℕ) (lent : List (List ℕ)) (vs : List ℕ) (left : List (List ℕ)) → refuses k lent ≡ succeeded vs left → ⊥
refused-not k lent vs left e =
    let a : ◌≡◌ {A = Answer} (refusal k) (success vs) = ap (λ (o : Outcome). o.answer) e in
    let z : ◌≡◌ {A = ℕ} 0 1 = cc in
    omega arith

-- an operation that succeeds has passed its first test
pub unless-test : (b : Bool) (k : ℕ) (lent : List (List ℕ)) (o : Outcome) (vs : List ℕ) (left : List (List ℕ))
    → unless b k lent o ≡ succeeded vs left → b ≡ true
unless-test true k lent o vs left e = refl
unless-test false k lent o vs left e = absurd (refused-not k lent vs left e)

-- and succeeds by what follows
pub unless-rest : (b : Bool) (k : ℕ) (lent : List (List ℕ)) (o : Outcome) (vs : List ℕ) (left : List (List ℕ))
    → unless b k lent o ≡ succeeded vs left → o ≡ succeeded vs left
unless-rest true k lent o vs left e = e
unless-rest false k lent o vs left e = absurd (refused-not k lent vs left e)

-- buffers before a last one
before_last : (a b : List (List ℕ)) (x y : List ℕ) → a ++ x ∷ [] ≡ b ++ y ∷ [] → a ≡ b
before_last [] [] x y e = refl
before_last [] (q ∷ b) x y e = absurd (omega (arith, ap length e, length-append b (y ∷ [])))
before_last (p ∷ a) [] x y e = absurd (omega (arith, ap length e, length-append a (x ∷ [])))
before_last (p ∷ a) (q ∷ b) x y e =
    let h : p ≡ q = cc in
    let t : a ++ x ∷ [] ≡ b ++ y ∷ [] = cc in
    ap₂ (λ (u : List ℕ) (v : List (List ℕ)). u ∷ v) h (before_last a b x y t)

-- a work buffer that is long enough is left all zero, and the operation goes on
pub work-enough : (s : List ℕ) (c : Circuit) (lent : List (List ℕ)) (work : List ℕ) (f : Circuit → Outcome) → read_circuit s ≡ legal c
    → work_bytes c ≤ length work → on_legal_work (read_circuit s) lent work f ≡ leaving (f c) (replicate (length work) 0)
work-enough s c lent work f e l =
    ap (λ (x : Reading). on_legal_work x lent work f) e
    ∙ ap (λ (b : Bool). unless b 6 (lent ++ work ∷ []) (leaving (f c) (replicate (length work) 0))) (le-leb (work_bytes c) (length work) l)

-- what a success with a work buffer says: the circuit was read, the buffer is long enough, and the rest succeeded
pub record WorkSucceeded (s work : List ℕ) (f : Circuit → Outcome) (vs : List ℕ) (left : List (List ℕ)) : Type 0 where
  pub circuit : Circuit
  pub read : read_circuit s ≡ legal circuit
  pub long : work_bytes circuit ≤ length work
  pub rest : f circuit ≡ succeeded vs left

module _ (s : List ℕ) (lent : List (List ℕ)) (work : List ℕ) (f : Circuit → Outcome) (vs : List ℕ) (left : List (List ℕ)) (worked : List ℕ) where
  -- of what was read
  read-succeeded : (r : Reading) → read_circuit s ≡ r → on_legal_work r lent work f ≡ succeeded vs (left ++ worked ∷ []) → WorkSucceeded s work f vs left
  read-succeeded (refused k slot) r e = absurd (refused-not k (lent ++ work ∷ []) vs (left ++ worked ∷ []) e)
  read-succeeded (legal c) r e =
      let zeros : List ℕ = replicate (length work) 0 in
      let t = unless-test (leb (work_bytes c) (length work)) 6 (lent ++ work ∷ []) (leaving (f c) zeros) vs (left ++ worked ∷ []) e in
      let o = unless-rest (leb (work_bytes c) (length work)) 6 (lent ++ work ∷ []) (leaving (f c) zeros) vs (left ++ worked ∷ []) e in
      let a : (f c).answer ≡ success vs = ap (λ (z : Outcome). z.answer) o in
      let b : (f c).left ≡ left = before_last (f c).left left zeros worked (ap (λ (z : Outcome). z.left) o) in
      record {
        circuit = c;
        read = r;
        long = leb-true (work_bytes c) (length work) t;
        rest = ap₂ (λ (x : Answer) (y : List (List ℕ)). record { answer = x; left = y }) a b;
      }

  pub work-succeeded : on_legal_work (read_circuit s) lent work f ≡ succeeded vs (left ++ worked ∷ []) → WorkSucceeded s work f vs left
  work-succeeded e = read-succeeded (read_circuit s) refl e
