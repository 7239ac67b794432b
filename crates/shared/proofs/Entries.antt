-- The tests of an entry: places, and the bytes at them.
-- Assumes nothing.
use mathlib.Core.Path.{◌≡◌, refl, sym, ap, ◌∙◌, subst}
use mathlib.Core.Bool.{Bool, true, false, ◌&&◌}
use mathlib.Core.List.{List, []}
use mathlib.Core.Option.{none, some}
use mathlib.Core.Logic.{⊎_elim}
use Prim.Native.Nat.{ℕ, ◌+◌, ◌-◌, ◌≤◌, ◌<◌}
use native.Mathlib.Omega.{arith}
use borrow.Author.Tests.{le-leb, lt-leb, leb-true}
use lib.Dec.{eqb, leb}
use lib.ListN.{length, take, drop}
use Rattle.bits.specs.Bits.{unused_zero}
use Rattle.bits.specs.Bytes.{same_bytes}
use Rattle.bits.proofs.Numbers.{lt-or-le}
use Rattle.bits.proofs.Tests.{and-true-left, and-true-right}
use Rattle.refusal.specs.Refusal.{number_of}
use Rattle.refusal.specs.declared.Refusal as declared
use Rattle.refusal.specs.Outcome as outcomes
use Rattle.refusal.proofs.Laws.{number_of-range}
use Rattle.refusal.specs.Outcome.{refuses, done, unless}
use Rattle.circuit.specs.Circuit.{Circuit}
use Rattle.circuit.specs.File.{Reading, refused, legal, read_circuit, circuit_of}
use Rattle.circuit.specs.Operations.{holds}
use Rattle.circuit.specs.declared.Sizes.{Sizes}
use Rattle.instance.specs.Instance.{Asked}
use Rattle.proof.specs.File.{header_m, header_n, header_hstar, good_header, proof_bytes}
use Rattle.proof.specs.Check.{check_legal}
use Rattle.proof_tests.specs.declared.Shape.{Shape}
use Rattle.std.specs.Prelude.{Result, Ok, Err}
use Rattle.proof_tests.specs.Steps.{all_unused, all_outputs, recomputed, tested, judged, legal_tests, Ready, entered, Took, in_table, in_marks}
use Rattle.proof_tests.proofs.Outcomes.{check-tests, tests-refuse, tests-accept}
use Rattle.shared.specs.declared.Place.{Place}
use Rattle.shared.specs.declared.Places.{Places}
use Rattle.shared.specs.StateSteps.{refusal_of}
use Rattle.shared.specs.Service.{inside, all_inside, at, number, but_late, on_entry, entry_of, entry_at, asks}
use Rattle.shared.specs.Steps.{Looking}
use Rattle.shared.proofs.Instances.{late-6, late-7, late-11, late-12}

-- a place, by its start and what is left
module _ (buffer : List ℕ) (p : Place) where
  pub inside-beyond : length buffer < p.start → false ≡ inside buffer p
  unfolding inside
  inside-beyond l = sym (lt-leb (p.start + p.len) (length buffer) (omega arith))

  pub inside-left : p.start ≤ length buffer → leb p.len (length buffer - p.start) ≡ inside buffer p
  unfolding inside
  inside-left l =
      ⊎_elim
      (λ (u : length buffer - p.start < p.len).
      lt-leb p.len (length buffer - p.start) u ∙ sym (lt-leb (p.start + p.len) (length buffer) (omega arith)))
      (λ (u : p.len ≤ length buffer - p.start).
      le-leb p.len (length buffer - p.start) u ∙ sym (le-leb (p.start + p.len) (length buffer) (omega arith)))
      (lt-or-le (length buffer - p.start) p.len)

  inside-fits : inside buffer p ≡ true → p.start + p.len ≤ length buffer
  unfolding inside
  inside-fits e = leb-true (p.start + p.len) (length buffer) e

-- all places
module _ (buffer : List ℕ) (p : Places) where
  pub all_made : (a b c d x y z : Bool) → a ≡ inside buffer p.circuit → b ≡ inside buffer p.y → c ≡ inside buffer p.message
      → d ≡ inside buffer p.proof → x ≡ c && d → y ≡ b && x → z ≡ a && y → z ≡ all_inside buffer p
  unfolding all_inside
  all_made a b c d x y z ea eb ec ed ex ey ez = ez ∙ rw (ey, ex, ea, eb, ec, ed) refl

  module _ (e : all_inside buffer p ≡ true) where
    all-tests : (inside buffer p.circuit ≡ true) × ((inside buffer p.y ≡ true) × ((inside buffer p.message ≡ true) × (inside buffer p.proof ≡ true)))
    unfolding all_inside
    all-tests =
        let a = inside buffer p.circuit in
        let b = inside buffer p.y in
        let c = inside buffer p.message in
        let d = inside buffer p.proof in
        let r = and-true-right a (b && (c && d)) e in
        let q = and-true-right b (c && d) r in
        (and-true-left a (b && (c && d)) e, (and-true-left b (c && d) r, (and-true-left c d q, and-true-right c d q)))

    pub fits-circuit : p.circuit.start + p.circuit.len ≤ length buffer
    fits-circuit = inside-fits buffer p.circuit all-tests.0

    pub fits-y : p.y.start + p.y.len ≤ length buffer
    fits-y = inside-fits buffer p.y all-tests.1.0

    pub fits-message : p.message.start + p.message.len ≤ length buffer
    fits-message = inside-fits buffer p.message all-tests.1.1.0

    pub fits-proof : p.proof.start + p.proof.len ≤ length buffer
    fits-proof = inside-fits buffer p.proof all-tests.1.1.1

-- the bytes at a place
pub part-is : (buffer : List ℕ) (p : Place) → take (p.start + p.len - p.start) (drop p.start buffer) ≡ at buffer p
part-is buffer p = let e : p.start + p.len - p.start ≡ p.len = omega arith in ap (λ (k : ℕ). take k (drop p.start buffer)) e

-- a refusal's number is none of the verdicts' 255
pub number_small : (r : declared.Refusal) (n : ℕ) → n ≡ number_of r → n < 255
number_small r n e = omega (arith, (number_of-range r).1)

-- the number of a test that refuses is refused on entry
refused-number : (k m : ℕ) → refuses k [] ≡ refuses m [] → but_late m ≡ some m → but_late k ≡ some k
refused-number k m e h =
    let q : k ≡ m = ap (λ (o : outcomes.Outcome). number o.answer) e in
    rw q h

refused-late : (a b c d e : Bool) (k : ℕ) → refuses k [] ≡ unless a 6 [] (unless b 7 [] (unless c 11 [] (unless d 12 [] (unless e 7 [] (done [])))))
    → but_late k ≡ some k
refused-late true true true true true k h =
    let z : ◌≡◌ {A = outcomes.Answer} (outcomes.refusal k) (outcomes.success []) = ap (λ (o : outcomes.Outcome). o.answer) h in
    let q : ◌≡◌ {A = ℕ} 0 1 = cc in absurd (omega arith)
refused-late true true true true false k h = refused-number k 7 h late-7
refused-late true true true false e k h = refused-number k 12 h late-12
refused-late true true false d e k h = refused-number k 11 h late-11
refused-late true false c d e k h = refused-number k 7 h late-7
refused-late false b c d e k h = refused-number k 6 h late-6

-- what is left for the instances is not refused on entry
judged-late : (a b : Bool) → but_late (number (unless a 10 [] (unless b 13 [] (done []))).answer) ≡ none
unfolding but_late
judged-late true true = refl
judged-late true false = refl
judged-late false b = refl

-- the bytes at the places
module _ (buffer : List ℕ) (p : Places) (ins : all_inside buffer p ≡ true) (s y message proof : List ℕ) (es : s ≡ at buffer p.circuit) (ey : y ≡ at buffer p.y)
    (em : message ≡ at buffer p.message) (ep : proof ≡ at buffer p.proof) where
  entry-is : entry_of s y message proof ≡ entry_at buffer p
  unfolding entry_at
  entry-is = rw (ins, es, ey, em, ep)

  -- the circuit is refused
  pub look-read : (k n slot : ℕ) → n ≡ k → read_circuit s ≡ refused k slot → some n ≡ entry_at buffer p
  unfolding entry_of
  look-read k n slot q e = ap some q ∙ (sym (ap (λ (r : Reading). on_entry r (check_legal s y message proof)) e) ∙ entry-is)

  -- it is legal; the tests
  module _ (l : read_circuit s ≡ legal (circuit_of s)) (r : Result Shape declared.Refusal) (e : entered r ≡ legal_tests s y message proof (circuit_of s) (done [])) where
    entry-late : but_late (number (check_legal s y message proof (circuit_of s)).answer) ≡ entry_at buffer p
    unfolding entry_of
    entry-late = sym (ap (λ (x : Reading). on_entry x (check_legal s y message proof)) l) ∙ entry-is

    number-late : (k : ℕ) → refuses k [] ≡ legal_tests s y message proof (circuit_of s) (done []) → but_late k ≡ some k
    unfolding legal_tests tested
    number-late k h =
        let c : Circuit = circuit_of s in
        let ask : ℕ → Asked = asks s y message proof in
        refused-late (holds (length c.outputs) y && leb (length message) 4096) (unused_zero (length c.outputs) y) (good_header proof)
        (eqb (length proof) (proof_bytes c (header_m proof) (header_n proof) ask)) (all_unused c (header_m proof) (header_n proof) ask proof) k h

    -- they refuse
    pub look-refused : (k : declared.Refusal) (n : ℕ) → n ≡ number_of k → r ≡ Err k → some n ≡ entry_at buffer p
    look-refused k n q t =
        let h : refuses (number_of k) [] ≡ legal_tests s y message proof (circuit_of s) (done []) = sym (ap entered t) ∙ e in
        let g : refuses (number_of k) [] ≡ check_legal s y message proof (circuit_of s) =
        tests-refuse s y message proof (circuit_of s) (number_of k) _ h ∙ sym (check-tests s y message proof (circuit_of s)) in
        ap some q
        ∙ (sym (number-late (number_of k) h) ∙ (ap (λ (o : outcomes.Outcome). but_late (number o.answer)) g ∙ entry-late))

    judged-none : but_late (number (judged (circuit_of s) y proof (header_m proof) (header_n proof) (asks s y message proof)).answer) ≡ none
    unfolding judged
    judged-none =
        let c : Circuit = circuit_of s in
        let ask : ℕ → Asked = asks s y message proof in
        judged-late (all_outputs c (header_m proof) (header_n proof) ask y proof) (same_bytes (recomputed c (header_m proof) (header_n proof) ask proof) (header_hstar proof))

    -- they pass
    pub look-taken : (f : Shape) → r ≡ Ok f → none ≡ entry_at buffer p
    look-taken f t =
        let g = tests-accept s y message proof (circuit_of s) (judged (circuit_of s) y proof (header_m proof) (header_n proof) (asks s y message proof)) (sym (ap entered t) ∙ e)
        ∙ sym (check-tests s y message proof (circuit_of s)) in
        sym judged-none ∙ (ap (λ (o : outcomes.Outcome). but_late (number o.answer)) g ∙ entry-late)

    pub look-ready : (z : Sizes) (table marks : Shape → List ℕ) (f : Shape) → Took r s z y message proof table marks → r ≡ Ok f
        → Ready (at buffer p.circuit) f (at buffer p.y) (at buffer p.message) (at buffer p.proof) (table f) (marks f)
    look-ready z table marks f t q =
        let u : (f.sizes ≡ z) × Ready s f y message proof (table f) (marks f) = subst (λ (x : Result Shape declared.Refusal). Took x s z y message proof table marks) q t in
        subst (λ (x : List ℕ). Ready x f (at buffer p.y) (at buffer p.message) (at buffer p.proof) (table f) (marks f)) es
        (subst (λ (x : List ℕ). Ready s f x (at buffer p.message) (at buffer p.proof) (table f) (marks f)) ey
        (subst (λ (x : List ℕ). Ready s f y x (at buffer p.proof) (table f) (marks f)) em
        (subst (λ (x : List ℕ). Ready s f y message x (table f) (marks f)) ep u.1)))

    -- what they answer
    pub look-told : (z : Sizes) (table marks : List ℕ) → Took r s z y message proof (in_table table) (in_marks marks)
        → (refusal_of r ≡ entry_at buffer p) × Looking r buffer p table marks
    look-told z table marks t = by-case r refl
      where
        by-case : (x : Result Shape declared.Refusal) → r ≡ x → (refusal_of x ≡ entry_at buffer p) × Looking x buffer p table marks
        by-case (Err k) q = (look-refused k (number_of k) refl q, number_small k (number_of k) refl)
        by-case (Ok f) q = (look-taken f q, look-ready z (in_table table) (in_marks marks) f t q)
