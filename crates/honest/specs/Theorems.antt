-- The theorems on proofs: the statements.
-- Assumes nothing.
use Rattle.std.specs.Prelude.{◌≡◌, true, false, List, [], ◌∷◌, ℕ, ◌+◌, ◌^◌, ◌≤◌, ◌<◌, length, get_or, take, replicate}
use Rattle.bits.specs.Bits.{oct, unused_zero}
use Rattle.keccak.specs.Sponge.{sha3_256}
use Rattle.refusal.specs.Outcome.{success, done}
use Rattle.parties.specs.Parties.{is_party_count}
use Rattle.circuit.specs.Circuit.{Circuit}
use Rattle.circuit.specs.File.{read_circuit, legal}
use Rattle.circuit.specs.Operations.{work_bytes}
use Rattle.hashing.specs.Inputs.{context_of, challenge_input}
use Rattle.choice.specs.Challenge.{max_instances}
use Rattle.seeds.specs.Operations.{max_message}
use Rattle.cover.specs.Cover.{is_above, opened as is_opened, OneAbove}
use Rattle.cover.specs.Masters.{height, master_of}
use Rattle.instance.specs.Instance.{Asked, opened, hiding}
use Rattle.proof.specs.Protocol.{challenged}
use Rattle.proof.specs.File.{header_bytes, hides}
use Rattle.proof.specs.Prove.{prove_op}
use Rattle.proof.specs.Check.{check_op}
use Rattle.honest.specs.Response.{Chosen, chosen, Response, answered, Header, HeaderFits, encode, decode_header, bound_in, challenge_in, nodes_bytes, decode, Lengths, implied_length, UnusedZero}
use Rattle.honest.specs.Verification.{seed*, msgs, Verified}

-- bytes
abbrev pub AllBytes : List ℕ → Type 0
AllBytes s = (k : ℕ) → get_or s k 0 < 256

-- check, lent this work buffer, accepts, and leaves the buffer all zero
abbrev pub Accepted : List ℕ → List ℕ → List ℕ → List ℕ → List ℕ → Type 0
Accepted s y message proof work = check_op s y message proof work ≡ done (replicate (length work) 0 ∷ [])

-- prove writes k bytes into a buffer, which then holds `left`, and leaves its work buffer all zero
abbrev pub Proves : List ℕ → List ℕ → List ℕ → List ℕ → List ℕ → List ℕ → ℕ → ℕ → ℕ → List ℕ → List ℕ → ℕ → List ℕ → Type 0
Proves s witness y message root salt M tau n buffer work k left =
    prove_op s witness y message root salt M tau n buffer work ≡ record { answer = success (k ∷ []); left = left ∷ replicate (length work) 0 ∷ [] }

-- Theorem, every honest proof passes: where prove writes k bytes into a buffer, check accepts those bytes under the same circuit, y and
-- message, with every work buffer that is long enough, whatever it holds
abbrev pub Complete : Type 0
Complete =
    (s witness y message root salt buffer work left : List ℕ) (M tau n k : ℕ) → AllBytes witness
    → Proves s witness y message root salt M tau n buffer work k left
    → (c : Circuit) → read_circuit s ≡ legal c → (lent : List ℕ) → work_bytes c ≤ length lent → Accepted s y message (take k left) lent

-- the header of a proof file: "11 a header under 38 bytes" (by document 02, order 10, under 70), "out of limits or with its zero byte not
-- 0"; "M is 2..512, τ 1..M−1"; document 02, order 13: "n of 2, 4, 8, 16, 32 and 64"
pub record GoodHeader (proof : List ℕ) (header : Header) : Type 0 where
  pub size : header_bytes ≤ length proof
  pub M_least : 2 ≤ header.M
  pub M_most : header.M ≤ max_instances
  pub tau_least : 1 ≤ header.tau
  pub tau_most : header.tau < header.M
  pub parties : is_party_count header.n ≡ true
  pub zero : get_or proof 5 0 ≡ 0

-- what the published check asks: the rules of document 01 for circuit, y, message and proof file, and the "Verification" of Figure 2 for
-- the response in the file, with the challenge of the header's h*
pub record Accepts (s y message proof : List ℕ) : Type 0 where
  -- "Check: 1 to 5" (by document 02, order 2: 1, 2, 3, 19, 20, 21 and 5)
  pub circuit : Circuit
  pub read : read_circuit s ≡ legal circuit
  -- "6 for y and message; 7 for y"
  pub y_size : length y ≡ oct (length circuit.outputs)
  pub message_size : length message ≤ max_message
  pub y_unused : unused_zero (length circuit.outputs) y ≡ true
  -- "11 a header .."
  pub header : GoodHeader proof (decode_header proof)
  -- "12 a length other than h* implies"
  pub size : length proof ≡ implied_length circuit (bound_in s y message proof) proof
  -- "7 unused bits in the proof"
  pub unused : (j p : ℕ) (x : Chosen) → j < (decode_header proof).M → (decode circuit (bound_in s y message proof) proof).sent j ≡ chosen p x
      → UnusedZero circuit x
  -- "10 a replay with another output; 13 the recomputed h* differs"
  pub verified : Verified circuit y (decode_header proof).hstar (decode_header proof).salt (decode_header proof).M (decode_header proof).n
      (challenge_in (bound_in s y message proof) proof) (decode circuit (bound_in s y message proof) proof)

-- Theorem, check is the published check: a proof is accepted exactly where that holds, with every work buffer that is long enough
pub record CheckIsPublished : Type 0 where
  pub sound : (s y message proof work : List ℕ) → Accepted s y message proof work → Accepts s y message proof
  pub complete : (s y message proof work : List ℕ) (a : Accepts s y message proof) → work_bytes a.circuit ≤ length work
      → Accepted s y message proof work

-- "from which every unhidden leaf among the M follows and no hidden one does" (document 02, order 5): exactly one opened node is at or
-- above the master of j ∉ C, and none is at or above that of j ∈ C
pub record SeedsFollow (M : ℕ) (challenge : ℕ → Asked) : Type 0 where
  pub every : (j : ℕ) → j < M → challenge j ≡ opened → OneAbove (height M) M (hides challenge) j
  pub none : (j p k : ℕ) → j < M → challenge j ≡ hiding p → is_opened (height M) M (hides challenge) k ≡ true
      → is_above (height M) k (2 ^ height M + j) ≡ false

-- Theorem, seed*_j is read from the cover: under every good header exactly one opened node is at or above each master that step 2 needs,
-- and none at or above another; and in the bytes that prove writes each seed*_j of step 2 is the master of its instance, from the root
pub record SeedsFromCover : Type 0 where
  pub follow : (bound proof : List ℕ) → GoodHeader proof (decode_header proof) → SeedsFollow (decode_header proof).M (challenge_in bound proof)
  pub honest : (s witness y message root salt buffer work left : List ℕ) (M tau n k : ℕ) (c : Circuit) → read_circuit s ≡ legal c
      → Proves s witness y message root salt M tau n buffer work k left
      → (j : ℕ) → j < M → challenge_in (bound_in s y message (take k left)) (take k left) j ≡ opened
      → seed* M salt (challenge_in (bound_in s y message (take k left)) (take k left)) (decode c (bound_in s y message (take k left)) (take k left)) j
      ≡ master_of M salt root j

-- Theorem: every accepted file is the encoding of its header and its response, so that no byte of it is free; the list holds bytes, as a
-- file does
abbrev pub AcceptedEncoding : Type 0
AcceptedEncoding =
    (s y message proof work : List ℕ) (c : Circuit) → AllBytes proof → read_circuit s ≡ legal c → Accepted s y message proof work
    → proof ≡ encode (decode_header proof) (decode c (bound_in s y message proof) proof)

-- Theorem: what is encoded is decoded again, where the header's numbers fit their bytes, and the response is to its challenge and has the
-- lengths that are asked for
pub record EncodingDecodes : Type 0 where
  pub header : (h : Header) (r : Response) → HeaderFits h → decode_header (encode h r) ≡ h
  pub nodes : (c : Circuit) (bound : List ℕ) (h : Header) (r : Response) → HeaderFits h
      → length r.nodes ≡ nodes_bytes h.M (challenged h.M h.tau h.n h.hstar bound)
      → (decode c bound (encode h r)).nodes ≡ r.nodes
  pub response : (c : Circuit) (bound : List ℕ) (h : Header) (r : Response) → HeaderFits h
      → length r.nodes ≡ nodes_bytes h.M (challenged h.M h.tau h.n h.hstar bound)
      → ((j : ℕ) → j < h.M → answered (r.sent j) ≡ challenged h.M h.tau h.n h.hstar bound j)
      → ((j : ℕ) → j < h.M → Lengths c h.n (r.sent j)) → (j : ℕ) → j < h.M → (decode c bound (encode h r)).sent j ≡ r.sent j

-- Theorem: in every accepted file, the messages of party p that go into h'_j are those sent
abbrev pub MessagesAsSent : Type 0
MessagesAsSent =
    (s y message proof work : List ℕ) (c : Circuit) → AllBytes proof → read_circuit s ≡ legal c → Accepted s y message proof work
    → (j p : ℕ) (x : Chosen) → j < (decode_header proof).M → (decode c (bound_in s y message proof) proof).sent j ≡ chosen p x
    → msgs c (decode_header proof).n (context_of (decode_header proof).salt j) p x p ≡ x.msgs_p

-- Theorem: the length of every accepted proof is the one its challenge implies
abbrev pub AcceptedLength : Type 0
AcceptedLength =
    (s y message proof work : List ℕ) (c : Circuit) → read_circuit s ≡ legal c → Accepted s y message proof work
    → length proof ≡ implied_length c (bound_in s y message proof) proof

-- the input of the challenge of a file, under the circuit file s, y and message
abbrev pub input_in : List ℕ → List ℕ → List ℕ → List ℕ → List ℕ
input_in s y message file = challenge_input (decode_header file).hstar (bound_in s y message file)

-- what two files with one challenge input have in common
pub record OneStatement (s y message proof s' y' message' proof' : List ℕ) (c c' : Circuit) : Type 0 where
  pub hstar : (decode_header proof).hstar ≡ (decode_header proof').hstar
  pub salt : (decode_header proof).salt ≡ (decode_header proof').salt
  pub M : (decode_header proof).M ≡ (decode_header proof').M
  pub tau : (decode_header proof).tau ≡ (decode_header proof').tau
  pub n : (decode_header proof).n ≡ (decode_header proof').n
  -- "one transcript could be offered under two circuits": only under two files with one SHA3-256
  pub circuits : sha3_256 s ≡ sha3_256 s'
  pub same_y : oct (length c.outputs) ≡ oct (length c'.outputs) → y ≡ y'
  pub same_message : oct (length c.outputs) ≡ oct (length c'.outputs) → message ≡ message'

-- Theorem, the challenge covers the statement (document 02, orders 1 and 10): where two accepted files draw their challenges from one input, they have one h*, salt, M, τ
-- and n, their circuit files have one SHA3-256, and, where the outputs of the circuits have equally many bytes, y and message are the same
abbrev pub StatementCovered : Type 0
StatementCovered =
    (s y message proof work s' y' message' proof' work' : List ℕ) (c c' : Circuit) → read_circuit s ≡ legal c → read_circuit s' ≡ legal c'
    → Accepted s y message proof work → Accepted s' y' message' proof' work' → input_in s y message proof ≡ input_in s' y' message' proof'
    → OneStatement s y message proof s' y' message' proof' c c'
