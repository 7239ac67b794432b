-- The input of every hash, named after what it makes. Document 01, "Seeds and digests", with the challenge of document 02, order 1, and
-- the salt of order 10: "Each input starts with a tag byte. j is u16, i is u8." "Tree nodes, leaves, tapes and commitments take a lent
-- 32-byte salt straight after the tag".
-- Assumes nothing.
use Rattle.std.specs.Prelude.{cond, List, [], ◌∷◌, ◌++◌, ℕ, ◌+◌, eqb, length}
use Rattle.bits.specs.Bytes.{le_bytes}
use Rattle.hashing.specs.declared.Context.{Context}

-- instance j of a proof with this salt
abbrev pub context_of : List ℕ → ℕ → Context
context_of salt j = record { salt = salt; number = j }

-- 2: the two children of node k, from its value
unfoldable pub node_input : Context → ℕ → List ℕ → List ℕ
node_input j k value = (2 ∷ j.salt) ++ (le_bytes 2 j.number ++ le_bytes 2 k) ++ value

-- 3: the seed and r of party i, from its leaf
unfoldable pub leaf_input : Context → ℕ → List ℕ → List ℕ
leaf_input j i leaf = (3 ∷ j.salt) ++ (le_bytes 2 j.number ++ le_bytes 1 i) ++ leaf

-- 4: the tape row of party i, from its seed
unfoldable pub tape_input : Context → ℕ → List ℕ → List ℕ
tape_input j i seed = (4 ∷ j.salt) ++ (le_bytes 2 j.number ++ le_bytes 1 i) ++ seed

-- "corrections if i = n − 1"
unfoldable pub own_corrections : ℕ → ℕ → List ℕ → List ℕ
own_corrections n i corrections = cond (eqb (i + 1) n) corrections []

-- 1: the commitment of party i of n
unfoldable pub commitment_input : Context → ℕ → ℕ → List ℕ → List ℕ → List ℕ → List ℕ
commitment_input j n i seed corrections r =
    (1 ∷ j.salt) ++ (le_bytes 2 j.number ++ le_bytes 1 i) ++ seed ++ own_corrections n i corrections ++ r

-- 7: h_j, over all commitments
unfoldable pub commitments_input : ℕ → List ℕ → List ℕ
commitments_input j commitments = (7 ∷ le_bytes 2 j) ++ commitments

-- 8: h'_j, over the masked inputs and all broadcast rows
unfoldable pub online_input : ℕ → List ℕ → List ℕ → List ℕ
online_input j masked_inputs rows = (8 ∷ le_bytes 2 j) ++ masked_inputs ++ rows

-- 9: h, over all h_j
unfoldable pub all_commitments_input : List ℕ → List ℕ
all_commitments_input digests = (9 ∷ []) ++ digests

-- 10: h', over all h'_j
unfoldable pub all_online_input : List ℕ → List ℕ
all_online_input digests = (10 ∷ []) ++ digests

-- 11: h*, over h and h'
unfoldable pub transcript_input : List ℕ → List ℕ → List ℕ
transcript_input h h' = (11 ∷ []) ++ h ++ h'

-- What the challenge is bound to beside h*. Document 02, order 10: the salt "follows h* in the challenge"; order 1: "After h* the
-- challenge input takes M, τ (u16), n (u8), SHA3-256 of the circuit file, then y packed"; document 01: "message length u16, message"
unfoldable pub bound_of : List ℕ → ℕ → ℕ → ℕ → List ℕ → List ℕ → List ℕ → List ℕ
bound_of salt M tau n digest y message =
    salt ++ (le_bytes 2 M ++ le_bytes 2 tau ++ le_bytes 1 n) ++ digest ++ y ++ le_bytes 2 (length message) ++ message

-- 6: the challenge, from h* and what it is bound to
unfoldable pub challenge_input : List ℕ → List ℕ → List ℕ
challenge_input hstar bound = 6 ∷ hstar ++ bound
