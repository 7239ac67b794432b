-- The three-move protocol (source document 001, Figure 2), with the challenge drawn from the first message.
-- Assumes nothing.
use Rattle.std.specs.Prelude.{cond, ℕ, eqb}
use mathlib.Core.List.{List, [], ◌∷◌, flatten}
use Rattle.bits.specs.Bits.{tabulate}
use Rattle.keccak.specs.Sponge.{sha3_256}
use Rattle.circuit.specs.Circuit.{Circuit}
use Rattle.hashing.specs.Inputs.{context_of, all_commitments_input, all_online_input, bound_of}
use Rattle.hashing.specs.Digest.{transcript_of}
use Rattle.choice.specs.Challenge.{stream_of, instances, hidden_parties}
use Rattle.instance.specs.Instance.{Asked, opened, hiding, master_commitments, master_online, stretch_of}

-- "9: h over (9, all h_j). 10: h' over (10, all h'_j). 11: h* over (11, h, h')", of M instances
unfoldable pub hstar_of : ℕ → (ℕ → List ℕ) → (ℕ → List ℕ) → List ℕ
hstar_of M commitments online =
    transcript_of (sha3_256 (all_commitments_input (flatten (tabulate M commitments)))) (sha3_256 (all_online_input (flatten (tabulate M online))))

-- Round 1: the first message, from the salt and the instances' masters
unfoldable pub first_message : Circuit → ℕ → ℕ → List ℕ → List ℕ → (ℕ → List ℕ) → List ℕ
first_message c M n salt witness masters =
    hstar_of M (λ j. master_commitments c n (context_of salt j) (masters j)) (λ j. master_online c n (context_of salt j) witness (masters j))

-- what is asked of instance j, where the instances is are chosen and hide the parties ps
unfoldable pub asked : List ℕ → List ℕ → ℕ → Asked
asked [] ps j = opened
asked (i ∷ is) [] j = opened
asked (i ∷ is) (p ∷ ps) j = cond (eqb i j) (hiding p) (asked is ps j)

-- "The trade now hashes the whole statement": what the challenge is bound to, the salt and the statement, with the digest of the circuit
-- file s as it is lent
unfoldable pub statement_of : List ℕ → ℕ → ℕ → ℕ → List ℕ → List ℕ → List ℕ → List ℕ
statement_of salt M tau n s y message = bound_of salt M tau n (sha3_256 s) y message

-- Round 2: the challenge, from the first message and what it is bound to
unfoldable pub challenged : ℕ → ℕ → ℕ → List ℕ → List ℕ → ℕ → Asked
challenged M tau n hstar bound =
    asked (instances M tau (stream_of tau hstar bound)) (hidden_parties tau n (stream_of tau hstar bound))

-- Round 3: the response, but for the opened nodes, which stand before it in a proof
unfoldable pub response_of : Circuit → ℕ → ℕ → List ℕ → List ℕ → (ℕ → List ℕ) → (ℕ → Asked) → List ℕ
response_of c M n salt witness masters ask = flatten (tabulate M (λ j. stretch_of c n (context_of salt j) witness (masters j) (ask j)))
