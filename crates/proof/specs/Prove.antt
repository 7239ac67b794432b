-- The operation prove: answer and buffer (document 01, "Prove"; document 02, order 10).
-- Assumes nothing.
use Rattle.std.specs.Prelude.{Bool, ◌&&◌, List, [], ◌∷◌, ◌++◌, ℕ, eqb, leb, length, drop}
use Rattle.bits.specs.Bits.{pack, bit_at, unused_zero}
use Rattle.bits.specs.Bytes.{same_bytes}
use Rattle.refusal.specs.Outcome.{success, Outcome, unless}
use Rattle.parties.specs.Parties.{is_party_count}
use Rattle.circuit.specs.Circuit.{Circuit, evaluate}
use Rattle.circuit.specs.File.{read_circuit}
use Rattle.circuit.specs.Operations.{on_legal_work, holds}
use Rattle.seeds.specs.Operations.{is_salt, max_message, are_counts}
use Rattle.cover.specs.Masters.{master_of, cover_of}
use Rattle.instance.specs.Instance.{Asked}
use Rattle.proof.specs.Protocol.{first_message, statement_of, challenged, response_of}
use Rattle.proof.specs.File.{header_of, hides, proof_room}

-- the proof: the header with the first message and the salt, the opened nodes of the masters' tree, and the response to the challenge, which is bound
-- to `bound`
unfoldable pub proof_of : Circuit → ℕ → ℕ → ℕ → List ℕ → List ℕ → List ℕ → List ℕ → List ℕ
proof_of c M tau n salt witness bound root =
    let hstar : List ℕ = first_message c M n salt witness (master_of M salt root) in
    let ask : ℕ → Asked = challenged M tau n hstar bound in
    header_of M tau n hstar salt ++ cover_of M (hides ask) salt root ++ response_of c M n salt witness (master_of M salt root) ask

-- the witness gives y
unfoldable pub witnesses : Circuit → List ℕ → List ℕ → Bool
witnesses c witness y = same_bytes (pack (evaluate c (bit_at witness))) y

-- "Success gives the length written; bytes beyond it stay."
unfoldable pub written : List ℕ → List ℕ → Outcome
written proof buffer = record { answer = success (length proof ∷ []); left = (proof ++ drop (length proof) buffer) ∷ [] }

-- "8 for M, τ, n; 6 ..; 7; 10 if the witness does not give y"; s is the circuit file
unfoldable pub prove_legal : List ℕ → List ℕ → List ℕ → List ℕ → List ℕ → List ℕ → ℕ → ℕ → ℕ → List ℕ → Circuit → Outcome
prove_legal s witness y message root salt M tau n buffer c =
    let lent : List (List ℕ) = buffer ∷ [] in
    unless (are_counts M tau && is_party_count n) 8 lent
    (unless
    (holds c.inputs witness && holds (length c.outputs) y && leb (length message) max_message && eqb (length root) 16 && is_salt salt
    && leb (proof_room c M tau n) (length buffer))
    6 lent
    (unless (unused_zero c.inputs witness && unused_zero (length c.outputs) y) 7 lent
    (unless (witnesses c witness y) 10 lent
    (written (proof_of c M tau n salt witness (statement_of salt M tau n s y message) root) buffer))))

-- "Prove: 1 to 5" (by document 02, order 2: 1, 2, 3, 19, 20, 21 and 5), then the work buffer (order 7), then these
unfoldable pub prove_op : List ℕ → List ℕ → List ℕ → List ℕ → List ℕ → List ℕ → ℕ → ℕ → ℕ → List ℕ → List ℕ → Outcome
prove_op s witness y message root salt M tau n buffer work =
    on_legal_work (read_circuit s) (buffer ∷ []) work (prove_legal s witness y message root salt M tau n buffer)
