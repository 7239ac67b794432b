-- m10 as the answer of prove, for every witness, message, root and salt: by the rows of the table, whichever instance is chosen.
-- Assumes nothing.
use mathlib.Core.Path.{◌≡◌, refl, sym, ap, ◌∙◌}
use mathlib.Core.List.Memᴰ
use mathlib.Core.List.{List, [], ◌∷◌}
use Prim.Native.Nat.{ℕ, ◌<◌}
use native.Mathlib.Omega.{arith}
use lib.ListN.{get_or, replicate, get_or-replicate}
use Rattle.bits.specs.Bytes.{le_at}
use Rattle.bits.proofs.Tabulate.{get_d_tabulate}
use Rattle.refusal.specs.Outcome.{success}
use Rattle.parties.specs.Parties.{height_of, is_party_count}
use Rattle.circuit.specs.Circuit.{ands}
use Rattle.circuit.specs.Chain.{walk_from}
use Rattle.circuit.specs.Fields as fields
use Rattle.circuit.specs.File.{legal, on_walk, reads_written, circuit_of, read_circuit}
use Rattle.circuit.specs.Operations.{work_bytes}
use Rattle.choice.specs.Challenge.{stream_of, instances, hidden_parties, Ascending, more, Sound}
use Rattle.seeds.specs.Operations.{are_counts}
use Rattle.choice.proofs.Challenges.{challenge-sound}
use Rattle.cover.specs.Masters.{master_of}
use Rattle.proof.specs.Protocol.{first_message, statement_of, asked, challenged}
use Rattle.proof.specs.File.{proof_bytes, proof_room}
use Rattle.proof.specs.Prove.{prove_op}
use Rattle.honest.proofs.Writes.{Passes, prove-answers}
use Rattle.marked.specs.Marked.{Right, circuit_k, proof_sizes, m10_first, m10_last, ProveInputs, hidden_party, M10}
use Rattle.marked.proofs.Table.{marked-cases}

-- K is legal; its numbers, and the room for its proof
read-K : read_circuit circuit_k ≡ legal (circuit_of circuit_k)
unfolding fields.read_with fields.read_fields fields.within_limits fields.right_length fields.good_record fields.good_records walk_from fields.link_of fields.chain_walk on_walk fields.chain_from fields.gate_at reads_written fields.good_outputs fields.good_wires le_at fields.field fields.gates_in_order
read-K = refl

inputs-K : (circuit_of circuit_k).inputs ≡ 2
unfolding fields.circuit_of le_at fields.field
inputs-K = refl

room-K : proof_room (circuit_of circuit_k) 4 1 2 ≡ 265
unfolding proof_room fields.circuit_of le_at fields.field fields.gates_in_order fields.chain_from fields.gate_at ands height_of
room-K = refl

-- the least work buffer
work-K : work_bytes (circuit_of circuit_k) ≡ 4288
unfolding fields.circuit_of le_at fields.field fields.gates_in_order fields.chain_from fields.gate_at
work-K = refl

-- the two rows of the table
first-row : proof_sizes 0 ≡ replicate 4 249
unfolding Right
first-row = marked-cases m10_first (Memᴰ.tail (Memᴰ.tail (Memᴰ.tail (Memᴰ.tail (Memᴰ.tail (Memᴰ.tail (Memᴰ.tail (Memᴰ.tail (Memᴰ.tail (Memᴰ.tail (Memᴰ.head refl)))))))))))

last_row : proof_sizes 1 ≡ replicate 4 248
unfolding Right
last_row = marked-cases m10_last (Memᴰ.tail (Memᴰ.tail (Memᴰ.tail (Memᴰ.tail (Memᴰ.tail (Memᴰ.tail (Memᴰ.tail (Memᴰ.tail (Memᴰ.tail (Memᴰ.tail (Memᴰ.tail (Memᴰ.head refl))))))))))))

-- a proof of four instances of which i is chosen and hides p
chosen-size : (i p k : ℕ) → i < 4 → proof_sizes p ≡ replicate 4 k → proof_bytes (circuit_of circuit_k) 4 2 (asked (i ∷ []) (p ∷ [])) ≡ k
chosen-size i p k h e =
    sym (get_d_tabulate 4 (λ j. proof_bytes (circuit_of circuit_k) 4 2 (asked (j ∷ []) (p ∷ []))) i 0 h)
    ∙ ap (λ (l : List ℕ). get_or l i 0) e ∙ get_or-replicate 4 i k 0 h

-- the first chosen instance is one of the four
first_below : (i : ℕ) (is : List ℕ) → Ascending 4 0 (i ∷ is) → i < 4
first_below i is (more a b r) = b

-- one instance is chosen, and its hidden party decides the length
size-by-party : (is ps : List ℕ) (p k : ℕ) → Sound 4 1 2 is ps → get_or ps 0 0 ≡ p → proof_sizes p ≡ replicate 4 k
    → proof_bytes (circuit_of circuit_k) 4 2 (asked is ps) ≡ k
size-by-party [] ps p k s e f = absurd (omega (arith, s.count))
size-by-party (i ∷ is) [] p k s e f = absurd (omega (arith, s.paired))
size-by-party (i ∷ []) (q ∷ []) p k s e f = chosen-size i q k (first_below i [] s.ascending) (ap proof_sizes e ∙ f)
size-by-party (i ∷ []) (q ∷ q' ∷ ps) p k s e f = absurd (omega (arith, s.paired))
size-by-party (i ∷ i' ∷ is) (q ∷ ps) p k s e f = absurd (omega (arith, s.count))

-- what is lent passes the tests of prove
passes : (witness y message root salt buffer work : List ℕ) → ProveInputs witness y message root salt buffer work → Passes (circuit_of circuit_k) witness y message root salt buffer 4 1 2
unfolding are_counts is_party_count height_of
passes witness y message root salt buffer work h =
    record {
      counts = refl;
      parties = refl;
      size = rw inputs-K h.witness_size;
      unused = rw inputs-K h.unused;
      gives = h.gives;
      short = h.short;
      root_size = h.root_size;
      salt_size = h.salt_size;
      room = rw room-K h.room;
    }

-- prove answers the length that its hidden party decides
answers : (witness y message root salt buffer work : List ℕ) (p k : ℕ) → ProveInputs witness y message root salt buffer work → proof_sizes p ≡ replicate 4 k
    → hidden_party witness y message root salt ≡ p → (prove_op circuit_k witness y message root salt 4 1 2 buffer work).answer ≡ success (k ∷ [])
unfolding hidden_party challenged
answers witness y message root salt buffer work p k h f e =
    let hstar : List ℕ = first_message (circuit_of circuit_k) 4 2 salt witness (master_of 4 salt root) in
    let bound : List ℕ = statement_of salt 4 1 2 circuit_k y message in
    let stream : List ℕ = stream_of 1 hstar bound in
    prove-answers (circuit_of circuit_k) witness y message root salt buffer 4 1 2 (passes witness y message root salt buffer work h) circuit_k work read-K (rw work-K h.work_room)
    ∙ ap (λ (n : ℕ). success (n ∷ []))
    (size-by-party (instances 4 1 stream) (hidden_parties 1 2 stream) p k (challenge-sound 4 1 2 hstar bound (omega arith) (omega arith)) e f)

-- m10, M = 4, τ = 1, n = 2: 249 bytes if p = 0, 248 if p = 1
pub m10-proved : M10
unfolding hidden_party
m10-proved witness y message root salt buffer work h =
    let hstar : List ℕ = first_message (circuit_of circuit_k) 4 2 salt witness (master_of 4 salt root) in
    record {
      party = (challenge-sound 4 1 2 hstar (statement_of salt 4 1 2 circuit_k y message) (omega arith) (omega arith)).hidden 0;
      first = answers witness y message root salt buffer work 0 249 h first-row;
      last = answers witness y message root salt buffer work 1 248 h last_row;
    }
