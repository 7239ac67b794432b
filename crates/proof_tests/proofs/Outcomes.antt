-- The answer of check: the refusals before the proof is looked into, and what is known once they are past.
-- Assumes nothing.
use mathlib.Core.Path.{◌≡◌, refl, sym, ap, ap₂, ◌∙◌}
use mathlib.Core.Bool.{Bool, true, false, not, ◌&&◌}
use mathlib.Core.List.{List, [], ◌∷◌}
use mathlib.Core.Logic.{◌⊎◌, inl, inr}
use Prim.Native.Nat.{ℕ, ◌+◌, ◌*◌, ◌≤◌, ◌<◌}
use borrow.Author.Tests.{eqb-true, le-leb, lt-leb}
use lib.Dec.{eqb, leb}
use lib.ListN.{length, replicate}
use Rattle.instance.specs.Instance.{Asked}
use Rattle.instance.specs.Steps.{Tree}
use native.Mathlib.Omega.{arith}
use Rattle.mpc.specs.Steps.{Known}
use Rattle.bits.specs.Bits.{oct, unused_zero}
use Rattle.refusal.specs.Refusal.{number_of}
use Rattle.refusal.specs.Outcome.{Answer, success, refusal, Outcome, refuses, done, unless}
use Rattle.parties.specs.Parties.{height_of, is_party_count}
use Rattle.circuit.specs.Circuit.{Circuit}
use Rattle.circuit.specs.File.{circuit_of, legal, read_circuit}
use Rattle.circuit.specs.Operations.{read_op, holds, leaving}
use Rattle.circuit.specs.Answers.{read_paper}
use Rattle.circuit.specs.declared.Sizes.{Sizes}
use Rattle.circuit.specs.declared.Fault.{Fault}
use Rattle.std.specs.Prelude.{Result, Ok, Err}
use Rattle.circuit.proofs.Answered.{fell, held}
use Rattle.mpc.proofs.Opened.{sized, circuit-outputs}
use Rattle.mpc.proofs.Lent.{work-refused, work-short, work-left}
use Rattle.proof.specs.Protocol.{statement_of, challenged}
use Rattle.proof.specs.File.{header_m, header_tau, header_n, header_hstar, header_salt, good_header, proof_bytes}
use Rattle.proof.specs.Check.{check_proof, check_legal, check_op}
use Rattle.proof.proofs.Works.{output-bytes}
use Rattle.proof_tests.specs.Steps.{all_unused, tested, judged, legal_tests, Headed}
use Rattle.proof_tests.proofs.Headers.{header-parties}

-- a legal file; b1 is the test of the length of y
module _ (s : List ℕ) (i o g a : ℕ) (k : Known s (sized i o g a)) (y message proof : List ℕ) (b1 : Bool) (e1 : b1 ≡ eqb (length y) (oct o)) where
  -- in the circuit's number of outputs
  length-right : b1 ≡ holds (length (circuit_of s).outputs) y
  length-right = e1 ∙ ap (λ (x : ℕ). eqb (length y) (oct x)) (sym (circuit-outputs s i o g a k))

  -- it fails, or that of the message's length fails
  pub legal-length : (b1 ≡ false) ⊎ ((b1 ≡ true) × (4096 < length message)) → refuses 6 [] ≡ legal_tests s y message proof (circuit_of s) (done [])
  unfolding legal_tests
  legal-length (inl f) = rw (sym length-right ∙ f)
  legal-length (inr p) = rw (sym length-right ∙ p.0, lt-leb (length message) 4096 p.1)

  -- both pass; the test of the unused bits of y
  module _ (t1 : b1 ≡ true) (few : length message ≤ 4096) (b3 : Bool) (e3 : b3 ≡ unused_zero o y) where
    lengths : holds (length (circuit_of s).outputs) y && leb (length message) 4096 ≡ true
    lengths = rw (sym length-right ∙ t1, le-leb (length message) 4096 few)

    unused-right : b3 ≡ unused_zero (length (circuit_of s).outputs) y
    unused-right = e3 ∙ ap (λ (x : ℕ). unused_zero x y) (sym (circuit-outputs s i o g a k))

    -- it fails
    pub legal-unused : not b3 ≡ true → refuses 7 [] ≡ legal_tests s y message proof (circuit_of s) (done [])
    unfolding legal_tests
    legal-unused t = rw (lengths, fell _ b3 unused-right t)

    -- it passes; the test of the header
    module _ (t3 : not b3 ≡ false) (b4 : Bool) (e4 : b4 ≡ good_header proof) where
      -- it fails
      pub legal-header : not b4 ≡ true → refuses 11 [] ≡ legal_tests s y message proof (circuit_of s) (done [])
      unfolding legal_tests
      legal-header t = rw (lengths, held _ b3 unused-right t3, fell _ b4 e4 t)

      -- it passes; the header's numbers
      module _ (t4 : not b4 ≡ false) (M tau n : ℕ) (f1 : M ≡ header_m proof) (f2 : tau ≡ header_tau proof) (f3 : n ≡ header_n proof) where
        pub legal-headed : read_circuit s ≡ legal (circuit_of s) → Headed M tau n y message proof
        legal-headed read =
            let bytes = output-bytes s i o g a k read y (eqb-true _ _ (sym e1 ∙ t1)) in
            record {
              good = held _ b4 e4 t4;
              is_M = f1;
              is_tau = f2;
              is_n = f3;
              y_least = bytes.0;
              y_most = bytes.1;
              short = few;
            }

        -- the tree of its parties
        pub legal-tree : (h : ℕ) → h ≡ height_of n → Tree n h
        legal-tree h e = record { parties = ap is_party_count f3 ∙ header-parties proof (held _ b4 e4 t4); height = e }

        -- the proof is looked into
        pub legal-done : (r : Outcome) → r ≡ tested (circuit_of s) proof M n (challenged M tau n (header_hstar proof) (statement_of (header_salt proof) M tau n s y message)) (done [])
            → r ≡ legal_tests s y message proof (circuit_of s) (done [])
        unfolding legal_tests
        legal-done r e =
            e
            ∙ ap (λ (m : ℕ). tested (circuit_of s) proof m n (challenged m tau n (header_hstar proof) (statement_of (header_salt proof) m tau n s y message)) (done [])) f1
            ∙ ap₂ (λ (t p : ℕ). tested (circuit_of s) proof (header_m proof) p (challenged (header_m proof) t p (header_hstar proof) (statement_of (header_salt proof) (header_m proof) t p s y message)) (done [])) f2 f3
            ∙ rw (lengths, held _ b3 unused-right t3, held _ b4 e4 t4)

-- a refusal is not a success
not_done : (k : ℕ) → refuses k [] ≡ done [] → ⊥
not_done k e = let z : ◌≡◌ {A = Answer} (refusal k) (success []) = ap (λ (o : Outcome). o.answer) e in let q : ◌≡◌ {A = ℕ} 0 1 = cc in absurd (omega arith)

-- tests, each with the number of its refusal, then the rest
unfoldable chain : List (Bool × ℕ) → Outcome → Outcome
chain [] rest = rest
chain (t ∷ ts) rest = unless t.0 t.1 [] (chain ts rest)

-- tests one after the other, then the rest: where they refuse they do so whatever the rest, and where they pass the rest decides
stop-one : (k m : ℕ) (b : Bool) (x rest : Outcome) → (refuses k [] ≡ x → refuses k [] ≡ rest) → refuses k [] ≡ unless b m [] x → refuses k [] ≡ unless b m [] rest
stop-one k m true x rest h e = h e
stop-one k m false x rest h e = e

pass-one : (m : ℕ) (b : Bool) (x rest all : Outcome) → (done [] ≡ x → all ≡ rest) → done [] ≡ unless b m [] x → all ≡ unless b m [] rest
pass-one m true x rest all h e = h e
pass-one m false x rest all h e = absurd (not_done m (sym e))

tests-stop : (k : ℕ) (ts : List (Bool × ℕ)) (rest : Outcome) → refuses k [] ≡ chain ts (done []) → refuses k [] ≡ chain ts rest
unfolding chain
tests-stop k [] rest e = absurd (not_done k e)
tests-stop k (t ∷ ts) rest e = stop-one k t.1 t.0 (chain ts (done [])) (chain ts rest) (tests-stop k ts rest) e

tests-pass : (ts : List (Bool × ℕ)) (rest : Outcome) → done [] ≡ chain ts (done []) → rest ≡ chain ts rest
unfolding chain
tests-pass [] rest e = refl
tests-pass (t ∷ ts) rest e = pass-one t.1 t.0 (chain ts (done [])) (chain ts rest) rest (tests-pass ts rest) e

module _ (s y message proof : List ℕ) (c : Circuit) where
  -- what the challenge of the proof asks
  abbrev asks : ℕ → Asked
  asks =
      challenged (header_m proof) (header_tau proof) (header_n proof) (header_hstar proof)
      (statement_of (header_salt proof) (header_m proof) (header_tau proof) (header_n proof) s y message)

  -- the tests that need no run
  abbrev legal-tests : List (Bool × ℕ)
  legal-tests =
      (holds (length c.outputs) y && leb (length message) 4096, 6)
      ∷ (unused_zero (length c.outputs) y, 7)
      ∷ (good_header proof, 11)
      ∷ (eqb (length proof) (proof_bytes c (header_m proof) (header_n proof) asks), 12)
      ∷ (all_unused c (header_m proof) (header_n proof) asks proof, 7)
      ∷ []

  tests-are : (rest : Outcome) → legal_tests s y message proof c rest ≡ chain legal-tests rest
  unfolding legal_tests tested chain
  tests-are rest = refl

  -- check is these tests, then the replays and the recomputed h*
  pub check-tests : check_legal s y message proof c ≡ legal_tests s y message proof c (judged c y proof (header_m proof) (header_n proof) asks)
  unfolding check_legal check_proof legal_tests tested judged
  check-tests = refl

  -- where they refuse check refuses
  pub tests-refuse : (k : ℕ) (rest : Outcome) → refuses k [] ≡ legal_tests s y message proof c (done []) → refuses k [] ≡ legal_tests s y message proof c rest
  tests-refuse k rest e = tests-stop k legal-tests rest (e ∙ tests-are (done [])) ∙ sym (tests-are rest)

  -- where they pass the rest decides
  pub tests-accept : (rest : Outcome) → done [] ≡ legal_tests s y message proof c (done []) → rest ≡ legal_tests s y message proof c rest
  tests-accept rest e = tests-pass legal-tests rest (e ∙ tests-are (done [])) ∙ sym (tests-are rest)

-- the file is read first
module _ (s y message proof work : List ℕ) (r : Result Sizes Fault) (e : read_paper r ≡ read_op s) where
  -- a refused file
  pub check-refused : (f : Fault) → r ≡ Err f → leaving (refuses (number_of f.refusal) []) work ≡ check_op s y message proof work
  unfolding check_op
  check-refused f p = work-refused s [] work (check_legal s y message proof) r e f p

  -- then the work buffer is tested
  module _ (z : Sizes) (p : r ≡ Ok z) (need : ℕ) (q : need ≡ 64 * (z.inputs + z.gates) + 4096) where
    pub check-short : length work < need → leaving (refuses 6 []) work ≡ check_op s y message proof work
    unfolding check_op
    check-short l = work-short s [] work (check_legal s y message proof) r e z p need q l

    pub check-left : need ≤ length work → (o : Outcome) → o ≡ check_legal s y message proof (circuit_of s)
        → (x : List ℕ) → x ≡ replicate (length work) 0 → leaving o x ≡ check_op s y message proof work
    unfolding check_op
    check-left l o t x u = work-left s [] work (check_legal s y message proof) r e z p need q l o t x u
