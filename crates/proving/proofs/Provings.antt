-- What prove answers: each refusal, and success.
-- Assumes nothing.
use mathlib.Core.Path.{◌≡◌, sym, ap, ap₂, ◌∙◌}
use mathlib.Core.Bool.{Bool, true, false, not, ◌&&◌}
use mathlib.Core.List.{List, [], ◌∷◌, ◌++◌}
use mathlib.Core.Logic.{◌⊎◌, inl, inr}
use Prim.Native.Nat.{ℕ, ◌≤◌, ◌+◌, ◌*◌, ◌<◌}
use native.Mathlib.Omega.{arith}
use borrow.Author.Tests.{eqb-true, leb-true, ne_eqb}
use lib.Dec.{eqb, leb}
use lib.ListN.{length, drop, replicate}
use Rattle.mpc.specs.Steps.{WitnessFits, Known}
use Rattle.bits.specs.Bits.{oct, unused_zero}
use Rattle.bits.proofs.Tests.{and-true-left, and-true-right}
use Rattle.refusal.specs.declared.Refusal.{Refusal}
use Rattle.refusal.specs.declared.Refusal.TheVariants.{BufferLength, UnusedBits, Parameter, Output}
use Rattle.parties.specs.Parties.{height_of, is_party_count}
use Rattle.circuit.specs.File.{circuit_of, legal, read_circuit}
use Rattle.circuit.specs.Operations.{read_op, leaving}
use Rattle.circuit.specs.Answers.{read_paper}
use Rattle.circuit.specs.declared.Sizes.{Sizes}
use Rattle.circuit.specs.declared.Fault.{Fault}
use Rattle.std.specs.Prelude.{Result, Ok, Err}
use Rattle.circuit.proofs.Answered.{fell, held}
use Rattle.mpc.proofs.Opened.{sized, circuit-inputs, circuit-outputs}
use Rattle.mpc.proofs.Lent.{work-refused, work-short, work-left}
use Rattle.seeds.specs.Operations.{are_counts}
use Rattle.seeds.proofs.Instances.{counts-fit}
use Rattle.instance.specs.Steps.{Tree}
use Rattle.proof.specs.File.{proof_room}
use Rattle.proof.proofs.Works.{output-bytes}
use Rattle.proof.specs.Protocol.{statement_of}
use Rattle.proof.specs.Prove.{proof_of, witnesses, written, prove_legal, prove_op}
use Rattle.rounds.specs.Steps.{Tested}
use Rattle.proving.specs.Answers.{outcome}

-- six tests that hold together
six : (b1 b2 b3 b4 b5 b6 : Bool) → b1 && b2 && b3 && b4 && b5 && b6 ≡ true
    → (b1 ≡ true) × ((b2 ≡ true) × ((b3 ≡ true) × ((b4 ≡ true) × ((b5 ≡ true) × (b6 ≡ true)))))
six b1 b2 b3 b4 b5 b6 z =
    let z5 = and-true-left (b1 && b2 && b3 && b4 && b5) b6 z in
    let z4 = and-true-left (b1 && b2 && b3 && b4) b5 z5 in
    let z3 = and-true-left (b1 && b2 && b3) b4 z4 in
    let z2 = and-true-left (b1 && b2) b3 z3 in
    (and-true-left b1 b2 z2, (and-true-right b1 b2 z2, (and-true-right (b1 && b2) b3 z3, (and-true-right (b1 && b2 && b3) b4 z4, (and-true-right (b1 && b2 && b3 && b4) b5 z5, and-true-right (b1 && b2 && b3 && b4 && b5) b6 z)))))

-- the answers on a legal file; the test of M and tau is b1
module _ (s : List ℕ) (i o g a : ℕ) (k : Known s (sized i o g a)) (w y message root salt buffer : List ℕ) (m tau n h : ℕ) (count : h ≡ height_of n) (b1 : Bool)
    (f1 : b1 ≡ are_counts m tau) where
  -- in the words of the operation
  counts-right : b1 && not (eqb h 0) ≡ are_counts m tau && is_party_count n
  unfolding is_party_count
  counts-right = ap₂ ◌&&◌ f1 (ap (λ (t : ℕ). not (eqb t 0)) count)

  counts-fail : (b1 ≡ false) ⊎ ((b1 ≡ true) × (h ≡ 0)) → are_counts m tau && is_party_count n ≡ false
  counts-fail (inl f) = sym counts-right ∙ rw f
  counts-fail (inr p) = sym counts-right ∙ rw (p.0, p.1)

  -- no counts
  pub prove-counts : (b1 ≡ false) ⊎ ((b1 ≡ true) × (h ≡ 0)) → outcome (Err Parameter) buffer ≡ prove_legal s w y message root salt m tau n buffer (circuit_of s)
  unfolding prove_legal
  prove-counts t = rw (counts-fail t)

  -- the test of the lengths, in the numbers that the code carries
  abbrev lent : ℕ → ℕ → Bool
  lent i o =
      eqb (length w) (oct i) && eqb (length y) (oct o) && leb (length message) 4096 && eqb (length root) 16 && eqb (length salt) 32
      && leb (proof_room (circuit_of s) m tau n) (length buffer)

  -- in those of the circuit
  lent-right : lent i o ≡ lent (circuit_of s).inputs (length (circuit_of s).outputs)
  lent-right = ap₂ lent (sym (circuit-inputs s i o g a k)) (sym (circuit-outputs s i o g a k))

  -- counts as stated
  module _ (t1 : b1 ≡ true) (t2 : h ≡ 0 → ⊥) where
    counts-pass : are_counts m tau && is_party_count n ≡ true
    counts-pass = sym counts-right ∙ rw (t1, ne_eqb h 0 t2)

    -- the test of M and tau
    counts-hold : are_counts m tau ≡ true
    counts-hold = sym f1 ∙ t1

    -- the tree of n parties
    pub prove-tree : Tree n h
    prove-tree = record { parties = and-true-right (are_counts m tau) (is_party_count n) (counts-pass); height = count }

    -- what the tests of the lengths ask
    pub prove-few : (m ≤ 512) × ((tau ≤ m) × Tree n h)
    prove-few = let z = counts-fit m tau counts-hold in (z.most, (omega (arith, z.below), prove-tree))

    -- the test of the lengths is b3
    module _ (b3 : Bool) (f3 : b3 ≡ lent i o) where
      -- a lent length not as stated
      pub prove-length : not b3 ≡ true → outcome (Err BufferLength) buffer ≡ prove_legal s w y message root salt m tau n buffer (circuit_of s)
      unfolding prove_legal
      prove-length t = rw (counts-pass, fell _ b3 (f3 ∙ lent-right) t)

      -- lengths as stated; the tests of the unused bits are b4 and b5
      module _ (t3 : not b3 ≡ false) (b4 b5 : Bool) (f4 : b4 ≡ unused_zero i w) (f5 : b5 ≡ unused_zero o y) where
        -- what the lengths are
        lent-holds : (length w ≡ oct i) × ((length y ≡ oct o) × ((length message ≤ 4096) × ((length root ≡ 16) × ((length salt ≡ 32) × (proof_room (circuit_of s) m tau n ≤ length buffer)))))
        lent-holds =
            let z =
            six (eqb (length w) (oct i)) (eqb (length y) (oct o)) (leb (length message) 4096) (eqb (length root) 16) (eqb (length salt) 32)
            (leb (proof_room (circuit_of s) m tau n) (length buffer)) (held _ b3 f3 t3) in
            (eqb-true _ _ z.0, (eqb-true _ _ z.1.0, (leb-true _ _ z.1.1.0, (eqb-true _ _ z.1.1.1.0, (eqb-true _ _ z.1.1.1.1.0, leb-true _ _ z.1.1.1.1.1)))))

        -- in the words of the operation
        unused-right : b4 && b5 ≡ unused_zero (circuit_of s).inputs w && unused_zero (length (circuit_of s).outputs) y
        unused-right =
            ap₂ ◌&&◌ (f4 ∙ ap (λ (x : ℕ). unused_zero x w) (sym (circuit-inputs s i o g a k)))
            (f5 ∙ ap (λ (x : ℕ). unused_zero x y) (sym (circuit-outputs s i o g a k)))

        -- a nonzero unused bit
        pub prove-unused : b4 && b5 ≡ false → outcome (Err UnusedBits) buffer ≡ prove_legal s w y message root salt m tau n buffer (circuit_of s)
        unfolding prove_legal
        prove-unused t = rw (counts-pass, held _ b3 (f3 ∙ lent-right) t3, sym unused-right ∙ t)

        -- no unused bit is set
        module _ (t6 : b4 && b5 ≡ true) where
          -- the witness is as stated
          pub prove-witness : WitnessFits (sized i o g a) w
          prove-witness = record { size = lent-holds.0; unused = sym f4 ∙ and-true-left b4 b5 t6 }

          -- what the steps ask
          pub prove-tested : read_circuit s ≡ legal (circuit_of s) → Tested s (sized i o g a) m tau n w y message salt buffer
          prove-tested read =
              let f = output-bytes s i o g a k read y lent-holds.1.0 in
              record {
                witness_fits = prove-witness;
                counts = counts-hold;
                y_least = f.0;
                y_most = f.1;
                short = lent-holds.1.1.0;
                salt_size = lent-holds.1.1.1.1.0;
                room = lent-holds.1.1.1.1.1;
              }

          -- the root has 16 bytes
          pub prove-root : length root ≡ 16
          prove-root = lent-holds.1.1.1.0

          -- the test of the output is b7
          module _ (b7 : Bool) (f7 : b7 ≡ witnesses (circuit_of s) w y) where
            -- another output
            pub prove-output : not b7 ≡ true → outcome (Err Output) buffer ≡ prove_legal s w y message root salt m tau n buffer (circuit_of s)
            unfolding prove_legal
            prove-output t =
                rw (counts-pass, held _ b3 (f3 ∙ lent-right) t3, sym unused-right ∙ t6, fell _ b7 f7 t)

            -- success
            pub prove-done : not b7 ≡ false → (r : ℕ) (left : List ℕ) → r ≡ length (proof_of (circuit_of s) m tau n salt w (statement_of salt m tau n s y message) root)
                → left ≡ proof_of (circuit_of s) m tau n salt w (statement_of salt m tau n s y message) root ++ drop r buffer
                → outcome (Ok r) left ≡ prove_legal s w y message root salt m tau n buffer (circuit_of s)
            unfolding prove_legal written
            prove-done t r left e f =
                let proof : List ℕ = proof_of (circuit_of s) m tau n salt w (statement_of salt m tau n s y message) root in
                ap (outcome (Ok r)) f ∙ ap (λ (x : ℕ). outcome (Ok x) (proof ++ drop x buffer)) e
                ∙ rw (counts-pass, held _ b3 (f3 ∙ lent-right) t3, sym unused-right ∙ t6, held _ b7 f7 t)

-- the file is read first
module _ (s w y message root salt : List ℕ) (m tau n : ℕ) (buffer work : List ℕ) (r : Result Sizes Fault) (e : read_paper r ≡ read_op s) where
  -- a refused file
  pub prove-refused : (f : Fault) → r ≡ Err f
      → leaving (outcome (Err f.refusal) buffer) work ≡ prove_op s w y message root salt m tau n buffer work
  unfolding prove_op
  prove-refused f p = work-refused s (buffer ∷ []) work (prove_legal s w y message root salt m tau n buffer) r e f p

  -- then the work buffer is tested
  module _ (z : Sizes) (p : r ≡ Ok z) (need : ℕ) (q : need ≡ 64 * (z.inputs + z.gates) + 4096) where
    pub prove-short : length work < need → leaving (outcome (Err BufferLength) buffer) work ≡ prove_op s w y message root salt m tau n buffer work
    unfolding prove_op
    prove-short l = work-short s (buffer ∷ []) work (prove_legal s w y message root salt m tau n buffer) r e z p need q l

    pub prove-left : need ≤ length work → (a : Result ℕ Refusal) (filled : List ℕ) → outcome a filled ≡ prove_legal s w y message root salt m tau n buffer (circuit_of s)
        → (x : List ℕ) → x ≡ replicate (length work) 0 → leaving (outcome a filled) x ≡ prove_op s w y message root salt m tau n buffer work
    unfolding prove_op
    prove-left l a filled t x u = work-left s (buffer ∷ []) work (prove_legal s w y message root salt m tau n buffer) r e z p need q l (outcome a filled) t x u
