-- What a check that accepts has tested.
-- Assumes nothing.
use mathlib.Core.Path.{◌≡◌, refl, sym, ap, ◌∙◌}
use mathlib.Core.Bool.{Bool, true, ◌&&◌}
use mathlib.Core.List.{List, []}
use Prim.Native.Nat.{ℕ, ◌≤◌, ◌<◌}
use borrow.Author.Tests.{eq-eqb, eqb-true, le-leb, leb-true}
use lib.Dec.{eqb, leb}
use lib.ListN.{length, replicate}
use Rattle.hashing.specs.Inputs.{context_of}
use Rattle.bits.specs.Bits.{oct, pack, unused_zero}
use Rattle.bits.specs.Bytes.{same_bytes}
use Rattle.bits.proofs.Equal.{same-eq, eq-same}
use Rattle.bits.proofs.Tests.{and-true-left, and-true-right}
use Rattle.refusal.specs.Outcome.{Outcome, done, unless}
use Rattle.circuit.specs.Circuit.{Circuit}
use Rattle.circuit.specs.File.{legal, read_circuit}
use Rattle.circuit.specs.Operations.{holds, work_bytes, leaving}
use Rattle.cover.specs.Masters.{master_from}
use Rattle.instance.specs.Instance.{Asked, opened, hiding}
use Rattle.proof.specs.Protocol.{hstar_of, statement_of, challenged}
use Rattle.proof.specs.File.{header_m, header_tau, header_n, header_hstar, good_header, proof_bytes, master_at, stretch_at, header_salt, context_at, hides, nodes_at}
use Rattle.instance.specs.Opened.{opened_run, stretch_commitments, stretch_online, stretch_unused, stretch_output}
use Rattle.proof.specs.Check.{every, check_proof, check_legal, check_op}
use Rattle.mpc.proofs.Succeeding.{unless-test, unless-rest, work-enough, work-succeeded}
use Rattle.proof.proofs.Passing.{and-true, every-at, all-every}
use Rattle.honest.specs.Theorems.{Accepted}

-- the master of instance j of a proof, with this salt
abbrev pub master_with : ℕ → (ℕ → Asked) → List ℕ → List ℕ → ℕ → List ℕ
master_with M ask salt proof j = master_from M (hides ask) salt (nodes_at M ask proof) j

-- the tests of a proof whose header is good, where h* is hstar, with the salt, and `ask` says what is asked of each instance
pub record ProofTests (c : Circuit) (y proof hstar salt : List ℕ) (M n : ℕ) (ask : ℕ → Asked) : Type 0 where
  pub size : length proof ≡ proof_bytes c M n ask
  pub unused : (j : ℕ) → j < M → stretch_unused c n (stretch_at c M n ask proof j) (ask j) ≡ true
  pub output : (j p : ℕ) → j < M → ask j ≡ hiding p → pack (opened_run c n (context_of salt j) p (stretch_at c M n ask proof j)).output ≡ y
  pub digest : hstar_of M (λ j. stretch_commitments c n (context_of salt j) (master_with M ask salt proof j) (stretch_at c M n ask proof j) (ask j)) (λ j. stretch_online c n (context_of salt j) (stretch_at c M n ask proof j) (ask j))
      ≡ hstar

-- all tests
pub record CheckTests (s y message proof : List ℕ) : Type 0 where
  pub circuit : Circuit
  pub read : read_circuit s ≡ legal circuit
  pub y_size : length y ≡ oct (length circuit.outputs)
  pub short : length message ≤ 4096
  pub y_unused : unused_zero (length circuit.outputs) y ≡ true
  pub header : good_header proof ≡ true
  pub proof-tests : ProofTests circuit y proof (header_hstar proof) (header_salt proof) (header_m proof) (header_n proof)
      (challenged (header_m proof) (header_tau proof) (header_n proof) (header_hstar proof)
      (statement_of (header_salt proof) (header_m proof) (header_tau proof) (header_n proof) s y message))

-- a proof, of which `ask` says what is asked of each instance
module _ (c : Circuit) (y proof : List ℕ) (M n : ℕ) (ask : ℕ → Asked) where
  -- the four tests
  abbrev size : Bool
  size = eqb (length proof) (proof_bytes c M n ask)

  abbrev unused : ℕ → Bool
  unused j = stretch_unused c n (stretch_at c M n ask proof j) (ask j)

  abbrev output : ℕ → Bool
  output j = stretch_output c n (context_at proof j) y (stretch_at c M n ask proof j) (ask j)

  abbrev recomputed : List ℕ
  recomputed =
      hstar_of M (λ j. stretch_commitments c n (context_at proof j) (master_with M ask (header_salt proof) proof j) (stretch_at c M n ask proof j) (ask j))
      (λ j. stretch_online c n (context_at proof j) (stretch_at c M n ask proof j) (ask j))

  -- check makes them in this order
  tests : check_proof c y proof M n ask
      ≡ unless size 12 [] (unless (every M unused) 7 []
      (unless (every M output) 10 [] (unless (same_bytes recomputed (header_hstar proof)) 13 [] (done []))))
  unfolding check_proof master_at
  tests = refl

  -- the test of the output, where all but p are opened
  output-is : (j p : ℕ) → ask j ≡ hiding p → output j ≡ same_bytes (pack (opened_run c n (context_at proof j) p (stretch_at c M n ask proof j)).output) y
  unfolding stretch_output
  output-is j p e = ap (stretch_output c n (context_at proof j) y (stretch_at c M n ask proof j)) e

  -- it passes where each replay gives y
  output-passes : (j : ℕ) (a : Asked)
      → ((p : ℕ) → a ≡ hiding p → pack (opened_run c n (context_at proof j) p (stretch_at c M n ask proof j)).output ≡ y)
      → stretch_output c n (context_at proof j) y (stretch_at c M n ask proof j) a ≡ true
  unfolding stretch_output
  output-passes j opened h = refl
  output-passes j (hiding p) h = eq-same _ y (h p refl)

  -- they pass where check accepts
  proof-passed : check_proof c y proof M n ask ≡ done [] → ProofTests c y proof (header_hstar proof) (header_salt proof) M n ask
  proof-passed e =
      let e0 = sym tests ∙ e in
      let e1 = unless-rest size 12 [] _ [] [] e0 in
      let e2 = unless-rest (every M unused) 7 [] _ [] [] e1 in
      let e3 = unless-rest (every M output) 10 [] _ [] [] e2 in
      record {
        size = eqb-true (length proof) (proof_bytes c M n ask) (unless-test size 12 [] _ [] [] e0);
        unused = every-at M unused (unless-test (every M unused) 7 [] _ [] [] e1);
        output = λ j p h q.
            same-eq _ y (sym (output-is j p q) ∙ every-at M output (unless-test (every M output) 10 [] _ [] [] e2) j h);
        digest = same-eq recomputed (header_hstar proof) (unless-test (same_bytes recomputed (header_hstar proof)) 13 [] _ [] [] e3);
      }

  -- and check accepts where they pass
  pub proof-accepted : ProofTests c y proof (header_hstar proof) (header_salt proof) M n ask → check_proof c y proof M n ask ≡ done []
  proof-accepted h =
      let a : size ≡ true = eq-eqb (length proof) (proof_bytes c M n ask) h.size in
      let b : every M unused ≡ true = all-every M unused h.unused in
      let d : every M output ≡ true = all-every M output (λ j l. output-passes j (ask j) (λ p e. h.output j p l e)) in
      let e : same_bytes recomputed (header_hstar proof) ≡ true = eq-same recomputed (header_hstar proof) h.digest in
      tests ∙ rw (a, b, d, e)

-- a check that accepts has passed the tests before the proof's
module _ (s y message proof : List ℕ) (c : Circuit) where
  -- the tests, and what is asked by the header's challenge
  abbrev sizes : Bool
  sizes = holds (length c.outputs) y && leb (length message) 4096

  abbrev clean : Bool
  clean = unused_zero (length c.outputs) y

  abbrev asks : ℕ → Asked
  asks = challenged (header_m proof) (header_tau proof) (header_n proof) (header_hstar proof) (statement_of (header_salt proof) (header_m proof) (header_tau proof) (header_n proof) s y message)

  abbrev rest : Outcome
  rest = check_proof c y proof (header_m proof) (header_n proof) asks

  -- check makes them in this order
  legal-tests : check_legal s y message proof c ≡ unless sizes 6 [] (unless clean 7 [] (unless (good_header proof) 11 [] rest))
  unfolding check_legal
  legal-tests = refl

  -- they pass where check accepts a legal circuit
  legal-passed : read_circuit s ≡ legal c → check_legal s y message proof c ≡ done [] → CheckTests s y message proof
  legal-passed r e =
      let e0 = sym legal-tests ∙ e in
      let e1 = unless-rest sizes 6 [] _ [] [] e0 in
      let e2 = unless-rest clean 7 [] _ [] [] e1 in
      let t = unless-test sizes 6 [] _ [] [] e0 in
      record {
        circuit = c;
        read = r;
        y_size = eqb-true (length y) _ (and-true-left (holds (length c.outputs) y) (leb (length message) 4096) t);
        short = leb-true (length message) 4096 (and-true-right (holds (length c.outputs) y) (leb (length message) 4096) t);
        y_unused = unless-test clean 7 [] _ [] [] e1;
        header = unless-test (good_header proof) 11 [] _ [] [] e2;
        proof-tests = proof-passed c y proof (header_m proof) (header_n proof) asks (unless-rest (good_header proof) 11 [] _ [] [] e2);
      }

-- all tests pass where check accepts
pub passed : (s y message proof work : List ℕ) → Accepted s y message proof work → CheckTests s y message proof
unfolding check_op
passed s y message proof work e =
    let h = work-succeeded s [] work (check_legal s y message proof) [] [] (replicate (length work) 0) e in
    legal-passed s y message proof h.circuit h.read h.rest

-- and check accepts where they pass
pub accepted : (s y message proof work : List ℕ) (h : CheckTests s y message proof) → work_bytes h.circuit ≤ length work → Accepted s y message proof work
unfolding check_op
accepted s y message proof work h long =
    let c = h.circuit in
    let a : sizes s y message proof c ≡ true = and-true _ _ (eq-eqb _ _ h.y_size) (le-leb (length message) 4096 h.short) in
    let b : rest s y message proof c ≡ done [] = proof-accepted c y proof (header_m proof) (header_n proof) (asks s y message proof c) h.proof-tests in
    let d : check_legal s y message proof c ≡ done [] = legal-tests s y message proof c ∙ rw (a, h.y_unused, h.header, b) in
    work-enough s c [] work (check_legal s y message proof) h.read long ∙ ap (λ (o : Outcome). leaving o (replicate (length work) 0)) d
