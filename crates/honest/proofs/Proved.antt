-- What a prove that succeeds has tested, and what it has written.
-- Assumes nothing.
use mathlib.Core.Path.{◌≡◌, ap}
use mathlib.Core.Bool.{Bool, true, ◌&&◌}
use mathlib.Core.List.{List, [], ◌∷◌, ◌++◌}
use Prim.Native.Nat.{ℕ}
use lib.Dec.{eqb, leb}
use lib.ListN.{length, drop, replicate}
use Rattle.bits.specs.Bits.{unused_zero}
use Rattle.bits.proofs.Tests.{and-true-left, and-true-right}
use Rattle.refusal.specs.Outcome.{Answer, success, Outcome, unless}
use Rattle.parties.specs.Parties.{is_party_count}
use Rattle.circuit.specs.Circuit.{Circuit}
use Rattle.circuit.specs.File.{legal, read_circuit}
use Rattle.circuit.specs.Operations.{holds}
use Rattle.seeds.specs.Operations.{are_counts}
use Rattle.proof.specs.File.{proof_room}
use Rattle.proof.specs.Protocol.{statement_of}
use Rattle.proof.specs.Prove.{proof_of, witnesses, written, prove_legal, prove_op}
use Rattle.mpc.proofs.Succeeding.{succeeded, unless-test, unless-rest, work-succeeded}
use Rattle.honest.specs.Theorems.{Proves}

-- the outcome is a success that says k and leaves `left` in the buffer
module _ (s witness y message root salt buffer left : List ℕ) (M tau n k : ℕ) where
  -- what was read and tested, and what is left
  pub record Proved : Type 0 where
    pub circuit : Circuit
    pub read : read_circuit s ≡ legal circuit
    pub counts : are_counts M tau ≡ true
    pub parties : is_party_count n ≡ true
    pub inputs : holds circuit.inputs witness ≡ true
    pub outputs : holds (length circuit.outputs) y ≡ true
    pub short : leb (length message) 4096 ≡ true
    pub root-size : eqb (length root) 16 ≡ true
    pub salt_size : eqb (length salt) 32 ≡ true
    pub room : leb (proof_room circuit M tau n) (length buffer) ≡ true
    pub unused-inputs : unused_zero circuit.inputs witness ≡ true
    pub unused-outputs : unused_zero (length circuit.outputs) y ≡ true
    pub gives : witnesses circuit witness y ≡ true
    pub size : length (proof_of circuit M tau n salt witness (statement_of salt M tau n s y message) root) ≡ k
    pub content : proof_of circuit M tau n salt witness (statement_of salt M tau n s y message) root ++ drop k buffer ≡ left

  -- what is written
  module _ (proof : List ℕ) (e : written proof buffer ≡ succeeded (k ∷ []) (left ∷ [])) where
    -- its length is k
    wrote-size : length proof ≡ k
    unfolding written
    wrote-size = let a : ◌≡◌ {A = Answer} (success (length proof ∷ [])) (success (k ∷ [])) = ap (λ (o : Outcome). o.answer) e in cc

    -- the bytes beyond it stay
    wrote-content : proof ++ drop k buffer ≡ left
    unfolding written
    wrote-content =
        let b : ◌≡◌ {A = List (List ℕ)} ((proof ++ drop (length proof) buffer) ∷ []) (left ∷ []) = ap (λ (o : Outcome). o.left) e in
        let d : proof ++ drop (length proof) buffer ≡ left = cc in
        rw wrote-size at d

  -- of a legal circuit
  proved-legal : (c : Circuit) → read_circuit s ≡ legal c → prove_legal s witness y message root salt M tau n buffer c ≡ succeeded (k ∷ []) (left ∷ []) → Proved
  unfolding prove_legal
  proved-legal c r e =
      let lent : List (List ℕ) = buffer ∷ [] in
      let a1 : Bool = are_counts M tau in
      let a2 : Bool = is_party_count n in
      let b1 : Bool = holds c.inputs witness in
      let b2 : Bool = holds (length c.outputs) y in
      let b3 : Bool = leb (length message) 4096 in
      let b4 : Bool = eqb (length root) 16 in
      let b5 : Bool = eqb (length salt) 32 in
      let b6 : Bool = leb (proof_room c M tau n) (length buffer) in
      let d1 : Bool = unused_zero c.inputs witness in
      let d2 : Bool = unused_zero (length c.outputs) y in
      let f : Bool = witnesses c witness y in
      let o4 : Outcome = written (proof_of c M tau n salt witness (statement_of salt M tau n s y message) root) buffer in
      let o3 : Outcome = unless f 10 lent o4 in
      let o2 : Outcome = unless (d1 && d2) 7 lent o3 in
      let o1 : Outcome = unless (b1 && b2 && b3 && b4 && b5 && b6) 6 lent o2 in
      let t1 : a1 && a2 ≡ true = unless-test (a1 && a2) 8 lent o1 (k ∷ []) (left ∷ []) e in
      let e1 = unless-rest (a1 && a2) 8 lent o1 (k ∷ []) (left ∷ []) e in
      let t2 : b1 && b2 && b3 && b4 && b5 && b6 ≡ true = unless-test (b1 && b2 && b3 && b4 && b5 && b6) 6 lent o2 (k ∷ []) (left ∷ []) e1 in
      let e2 = unless-rest (b1 && b2 && b3 && b4 && b5 && b6) 6 lent o2 (k ∷ []) (left ∷ []) e1 in
      let t3 : d1 && d2 ≡ true = unless-test (d1 && d2) 7 lent o3 (k ∷ []) (left ∷ []) e2 in
      let e3 = unless-rest (d1 && d2) 7 lent o3 (k ∷ []) (left ∷ []) e2 in
      let e4 = unless-rest f 10 lent o4 (k ∷ []) (left ∷ []) e3 in
      let u5 : b1 && b2 && b3 && b4 && b5 ≡ true = and-true-left (b1 && b2 && b3 && b4 && b5) b6 t2 in
      let u4 : b1 && b2 && b3 && b4 ≡ true = and-true-left (b1 && b2 && b3 && b4) b5 u5 in
      let u3 : b1 && b2 && b3 ≡ true = and-true-left (b1 && b2 && b3) b4 u4 in
      let u2 : b1 && b2 ≡ true = and-true-left (b1 && b2) b3 u3 in
      record {
        circuit = c;
        read = r;
        counts = and-true-left a1 a2 t1;
        parties = and-true-right a1 a2 t1;
        inputs = and-true-left b1 b2 u2;
        outputs = and-true-right b1 b2 u2;
        short = and-true-right (b1 && b2) b3 u3;
        root-size = and-true-right (b1 && b2 && b3) b4 u4;
        salt_size = and-true-right (b1 && b2 && b3 && b4) b5 u5;
        room = and-true-right (b1 && b2 && b3 && b4 && b5) b6 t2;
        unused-inputs = and-true-left d1 d2 t3;
        unused-outputs = and-true-right d1 d2 t3;
        gives = unless-test f 10 lent o4 (k ∷ []) (left ∷ []) e3;
        size = wrote-size (proof_of c M tau n salt witness (statement_of salt M tau n s y message) root) e4;
        content = wrote-content (proof_of c M tau n salt witness (statement_of salt M tau n s y message) root) e4;
      }

  -- all of it follows from the outcome
  pub proved : (work : List ℕ) → Proves s witness y message root salt M tau n buffer work k left → Proved
  unfolding prove_op
  proved work e =
      let h = work-succeeded s (buffer ∷ []) work (prove_legal s witness y message root salt M tau n buffer) (k ∷ []) (left ∷ []) (replicate (length work) 0) e in
      proved-legal h.circuit h.read h.rest
