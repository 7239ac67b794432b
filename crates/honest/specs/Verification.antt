-- "Verification" in Figure 2 of source document 001, sentence by sentence, with the hashes of document 01, "Seeds and digests". In the
-- definitions an instance j is its number with the salt of its proof (document 02, order 10).
-- Assumes nothing.
use Rattle.std.specs.Prelude.{◌≡◌, cond, ℕ, zero, suc, ◌+◌, ◌/◌, ◌%◌, ◌<◌, eqb, take, drop, replicate}
use mathlib.Core.List.{List, [], flatten}
use Rattle.hashing.specs.declared.Context.{Context}
use Rattle.bits.specs.Bits.{tabulate, oct, pack}
use Rattle.bits.specs.Bytes.{row_of}
use Rattle.keccak.specs.Sponge.{sha3_256}
use Rattle.parties.specs.Parties.{height_of}
use Rattle.circuit.specs.Circuit.{Circuit}
use Rattle.plain.specs.Run.{Transcript}
use Rattle.plain.specs.Tapes.{ands_of, row_bytes, used_bits}
use Rattle.plain.specs.Showing.{correction_bits, row_bits, hidden, Showing, replay_of}
use Rattle.hashing.specs.Inputs.{context_of, commitment_input, commitments_input, online_input, all_commitments_input, all_online_input, transcript_input}
use Rattle.tree.specs.Tree.{left_child, right_child, node_value}
use Rattle.party.specs.Derive.{seed_row, tape_row}
use Rattle.cover.specs.Masters.{master_from}
use Rattle.instance.specs.Instance.{Asked}
use Rattle.proof.specs.File.{hides}
use Rattle.honest.specs.Response.{Unchosen, Chosen, unchosen, chosen, Response, answered}

-- x 0, .., x (k − 1), one after the other
abbrev pub all : ℕ → (ℕ → List ℕ) → List ℕ
all k x = flatten (tabulate k x)

-- seed_{j,i}, from the leaf of party i
abbrev pub seed_of : Context → ℕ → List ℕ → List ℕ
seed_of j i leaf = take 16 (seed_row j i leaf)

-- r_{j,i}, from the leaf of party i
abbrev pub r_of : Context → ℕ → List ℕ → List ℕ
r_of j i leaf = drop 16 (seed_row j i leaf)

-- Round 1, step 2: "com_{j,i} := Com(state_{j,i}; r_{j,i})", where the state is the seed, and for party n − 1 the seed and aux_j
unfoldable pub com_of : ℕ → Context → (ℕ → List ℕ) → List ℕ → ℕ → List ℕ
com_of n j leaf aux i = sha3_256 (commitment_input j n i (seed_of j i (leaf i)) aux (r_of j i (leaf i)))

-- the tapes of the parties, from their seeds
unfoldable pub tapes : Circuit → ℕ → Context → (ℕ → List ℕ) → List ℕ
tapes c n j leaf = all n (λ i. tape_row j i (seed_of j i (leaf i)) (used_bits c n i) (row_bytes c))

-- seed*_j of an instance j ∉ C: the master of j, as it follows from the opened nodes (document 02, order 5: "from which every unhidden
-- leaf among the M follows"), where those of j ∈ C are hidden
unfoldable pub seed* : ℕ → List ℕ → (ℕ → Asked) → Response → ℕ → List ℕ
seed* M salt challenge response j = master_from M (hides challenge) salt response.nodes j

-- Round 1, step 1: "use it to generate values seed_{j,1}, r_{j,1}, ..": leaf i is node n + i of the tree of seed*_j
unfoldable pub honest_leaf : ℕ → Context → List ℕ → ℕ → List ℕ
honest_leaf n j seed* i = node_value j seed* (height_of n) (n + i)

-- Round 1, step 1: "Also compute aux_j": the corrections
unfoldable pub honest_aux : Circuit → ℕ → Context → List ℕ → List ℕ
honest_aux c n j seed* = pack (correction_bits c n (tapes c n j (honest_leaf n j seed*)))

-- Round 1, step 2, from seed*_j
unfoldable pub honest_com : Circuit → ℕ → Context → List ℕ → ℕ → List ℕ
honest_com c n j seed* = com_of n j (honest_leaf n j seed*) (honest_aux c n j seed*)

-- the value of node x ≠ q, d levels below the master, from the siblings on the path to node q of that level, top first: the sibling of q
-- is the last of them, any other node is a child of the node above it
unfoldable pub value_beside : Context → List ℕ → ℕ → ℕ → ℕ → List ℕ
value_beside j siblings zero q x = []
value_beside j siblings (suc d) q x =
    let k : ℕ = x / 2 in
    let value : List ℕ = value_beside j siblings d (q / 2) k in
    cond (eqb k (q / 2)) (row_of siblings 16 d) (cond (eqb (x % 2) 0) (left_child j k value) (right_child j k value))

-- the leaf of party i ≠ p, node n + i: from the siblings on the path to leaf p, node n + p
unfoldable pub opened_leaf : ℕ → Context → ℕ → Chosen → ℕ → List ℕ
opened_leaf n j p x i = value_beside j x.siblings (height_of n) (n + p) (n + i)

-- com_{j,i} of a chosen instance: com_{j,p} as sent, the others from state_{j,i} and r_{j,i}
unfoldable pub opened_com : ℕ → Context → ℕ → Chosen → ℕ → List ℕ
opened_com n j p x i = cond (eqb i p) x.com_p (com_of n j (opened_leaf n j p x) x.aux i)

-- what is shown of a chosen instance: the tapes of the parties i ≠ p, their corrections, the masked inputs and msgs_{j,p} as sent
abbrev pub shown : Circuit → ℕ → Context → ℕ → Chosen → Showing
shown c n j p x = record {
  tapes = hidden c p (tapes c n j (opened_leaf n j p x));
  corrections = cond (eqb (suc p) n) (replicate (oct (ands_of c)) 0) x.aux;
  masked_inputs = x.masked;
  row = x.msgs_p;
}

-- step 3: the execution of Π among the parties i ≠ p, with the masked inputs and msgs_{j,p} as sent
unfoldable pub simulation : Circuit → ℕ → Context → ℕ → Chosen → Transcript
simulation c n j p x =
    replay_of c n p (record {
      tapes = hidden c p (tapes c n j (opened_leaf n j p x));
      corrections = cond (eqb (suc p) n) (replicate (oct (ands_of c)) 0) x.aux;
      masked_inputs = x.masked;
      row = x.msgs_p;
    })

-- msgs_{j,i} of that execution; of party p the bits as sent (`MessagesAsSent`)
unfoldable pub msgs : Circuit → ℕ → Context → ℕ → Chosen → ℕ → List ℕ
msgs c n j p x i = pack (row_bits (simulation c n j p x) i)

-- "The verifier accepts iff all the following checks succeed", of M instances by n parties. The challenge (C, P) asks of instance j to be
-- opened, j ∉ C, or to hide p_j, j ∈ C. "001 has one output bit equal to 1, here it is a string y."
pub record Verified (c : Circuit) (y hstar salt : List ℕ) (M n : ℕ) (challenge : ℕ → Asked) (response : Response) : Type 0 where
  -- Round 3: the response is one to this challenge
  pub answers : (j : ℕ) → j < M → answered (response.sent j) ≡ challenge j
  -- h_j, h, h'_j and h'
  pub hj : ℕ → List ℕ
  pub h : List ℕ
  pub h'j : ℕ → List ℕ
  pub h' : List ℕ
  -- 1. "For every j ∈ C, i ≠ p_j, the verifier uses state_{j,i} and r_{j,i} to compute com_{j,i}. It then computes
  -- h_j := H(com_{j,1}, .., com_{j,n})."
  pub step_1 : (j p : ℕ) (x : Chosen) → j < M → response.sent j ≡ chosen p x
      → hj j ≡ sha3_256 (commitments_input j (all n (opened_com n (context_of salt j) p x)))
  -- 2. "For j ∈ [M] \ C, the verifier uses seed*_j to compute h_j as an honest prover would."
  pub step_2 : (j : ℕ) (u : Unchosen) → j < M → response.sent j ≡ unchosen u
      → hj j ≡ sha3_256 (commitments_input j (all n (honest_com c n (context_of salt j) (seed* M salt challenge response j))))
  -- "It then computes h := H(h_1, .., h_M)."
  pub step_2_h : h ≡ sha3_256 (all_commitments_input (all M hj))
  -- 3. "For each j ∈ C, the verifier simulates an execution of Π .. This yields {msgs_i}_{i ≠ p_j} and an output bit b. The verifier
  -- checks that b = 1"
  pub step_3_output : (j p : ℕ) (x : Chosen) → j < M → response.sent j ≡ chosen p x → pack (simulation c n (context_of salt j) p x).output ≡ y
  -- "and computes h'_j := H({ẑ_{j,α}}, msgs_{j,1}, .., msgs_{j,n})"; for j ∉ C it is as sent
  pub step_3 : (j p : ℕ) (x : Chosen) → j < M → response.sent j ≡ chosen p x
      → h'j j ≡ sha3_256 (online_input j x.masked (all n (msgs c n (context_of salt j) p x)))
  pub step_3_sent : (j : ℕ) (u : Unchosen) → j < M → response.sent j ≡ unchosen u → h'j j ≡ u.h'
  -- "as well as h' := H(h'_1, .., h'_m)", m being M
  pub step_3_h' : h' ≡ sha3_256 (all_online_input (all M h'j))
  -- 4. "The verifier checks that H(h, h') = h*."
  pub step_4 : sha3_256 (transcript_input h h') ≡ hstar
