-- Prove on what passes its tests: it writes the proof, and answers the length that the challenge implies.
-- Assumes nothing.
use mathlib.Core.Path.{◌≡◌, sym, ap, ◌∙◌}
use mathlib.Core.Bool.{true}
use mathlib.Core.List.{List, [], ◌∷◌}
use Prim.Native.Nat.{ℕ, ◌≤◌}
use borrow.Author.Tests.{eq-eqb, le-leb}
use lib.ListN.{length, replicate, length-map}
use Rattle.bits.specs.Bits.{oct, pack, bit_at, unused_zero}
use Rattle.bits.proofs.Packing.{length-pack, unused-pack}
use Rattle.bits.proofs.Equal.{eq-same}
use Rattle.refusal.specs.Outcome.{success, Outcome}
use Rattle.parties.specs.Parties.{is_party_count}
use Rattle.circuit.specs.Circuit.{Circuit, eval_gates, evaluate}
use Rattle.circuit.specs.File.{legal, read_circuit}
use Rattle.circuit.specs.Operations.{work_bytes, leaving}
use Rattle.mpc.proofs.Succeeding.{work-enough}
use Rattle.seeds.specs.Operations.{are_counts}
use Rattle.cover.specs.Masters.{master_of}
use Rattle.proof.specs.Protocol.{first_message, statement_of, challenged}
use Rattle.proof.specs.File.{proof_bytes, proof_room}
use Rattle.proof.specs.Prove.{proof_of, witnesses, written, prove_legal, prove_op}
use Rattle.proof.proofs.Written.{length-proof}

-- the output of a circuit has O bits
outputs-length : (c : Circuit) (witness : List ℕ) → length (evaluate c (bit_at witness)) ≡ length c.outputs
unfolding evaluate
outputs-length c witness = length-map c.outputs (eval_gates c.gates (bit_at witness))

-- what passes the tests of prove, of a circuit that was read
pub record Passes (c : Circuit) (witness y message root salt buffer : List ℕ) (M tau n : ℕ) : Type 0 where
  pub counts : are_counts M tau ≡ true
  pub parties : is_party_count n ≡ true
  pub size : length witness ≡ oct c.inputs
  pub unused : unused_zero c.inputs witness ≡ true
  pub gives : pack (evaluate c (bit_at witness)) ≡ y
  pub short : length message ≤ 4096
  pub root_size : length root ≡ 16
  pub salt_size : length salt ≡ 32
  pub room : proof_room c M tau n ≤ length buffer

module _ (c : Circuit) (witness y message root salt buffer : List ℕ) (M tau n : ℕ) (h : Passes c witness y message root salt buffer M tau n) where
  -- y has its length and no unused bit set
  y_size : length y ≡ oct (length c.outputs)
  y_size = ap length (sym h.gives) ∙ length-pack (evaluate c (bit_at witness)) ∙ ap oct (outputs-length c witness)

  y_unused : unused_zero (length c.outputs) y ≡ true
  y_unused = rw (← outputs-length c witness, ← h.gives) (unused-pack (evaluate c (bit_at witness)))

  y-given : witnesses c witness y ≡ true
  unfolding witnesses
  y-given = eq-same (pack (evaluate c (bit_at witness))) y h.gives

  legal-writes : (s : List ℕ) → prove_legal s witness y message root salt M tau n buffer c
      ≡ written (proof_of c M tau n salt witness (statement_of salt M tau n s y message) root) buffer
  unfolding prove_legal
  legal-writes s =
      rw (
        h.counts,
        h.parties,
        eq-eqb (length witness) _ h.size,
        eq-eqb (length y) _ y_size,
        le-leb (length message) 4096 h.short,
        eq-eqb (length root) 16 h.root_size,
        eq-eqb (length salt) 32 h.salt_size,
        le-leb (proof_room c M tau n) (length buffer) h.room,
        h.unused,
        y_unused,
        y-given,
      )

  -- prove writes the proof, and leaves its work buffer all zero
  pub prove-writes : (s work : List ℕ) → read_circuit s ≡ legal c → work_bytes c ≤ length work
      → prove_op s witness y message root salt M tau n buffer work
      ≡ leaving (written (proof_of c M tau n salt witness (statement_of salt M tau n s y message) root) buffer) (replicate (length work) 0)
  unfolding prove_op
  prove-writes s work e long =
      work-enough s c (buffer ∷ []) work (prove_legal s witness y message root salt M tau n buffer) e long
      ∙ ap (λ (o : Outcome). leaving o (replicate (length work) 0)) (legal-writes s)

  -- and answers its length
  pub prove-answers : (s work : List ℕ) → read_circuit s ≡ legal c → work_bytes c ≤ length work
      → (prove_op s witness y message root salt M tau n buffer work).answer
      ≡ success (proof_bytes c M n (challenged M tau n (first_message c M n salt witness (master_of M salt root)) (statement_of salt M tau n s y message)) ∷ [])
  unfolding written
  prove-answers s work e long =
      ap (λ (o : Outcome). o.answer) (prove-writes s work e long)
      ∙ ap (λ (k : ℕ). success (k ∷ [])) (length-proof c M tau n salt witness (statement_of salt M tau n s y message) root h.salt_size h.root_size)
