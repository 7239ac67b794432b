-- What a salt keeps apart. Document 02, order 10: "Several depots' proofs can be attacked together by searching one hash for all of them.
-- Tree nodes, leaves, tapes and commitments take a lent 32-byte salt straight after the tag".
-- Assumes nothing.
use Rattle.std.specs.Prelude.{◌≡◌, List, ℕ, length}
use Rattle.hashing.specs.Inputs.{context_of, node_input, leaf_input, tape_input, commitment_input}

-- what a small hash takes beside the salt: tags 2, 3, 4 and 1, with the instance j, the node or the party, and the values hashed
pub data Small : Type 0 where
  node : (j k : ℕ) (value : List ℕ) → Small
  leaf : (j i : ℕ) (value : List ℕ) → Small
  tape : (j i : ℕ) (seed : List ℕ) → Small
  commitment : (j n i : ℕ) (seed corrections r : List ℕ) → Small

-- its input
unfoldable pub small_input : List ℕ → Small → List ℕ
small_input salt (node j k value) = node_input (context_of salt j) k value
small_input salt (leaf j i value) = leaf_input (context_of salt j) i value
small_input salt (tape j i seed) = tape_input (context_of salt j) i seed
small_input salt (commitment j n i seed corrections r) = commitment_input (context_of salt j) n i seed corrections r

-- Theorem, salts keep apart: no input of tags 1 to 4 under one salt is an input of tags 1 to 4 under another salt of 32 bytes
abbrev pub SaltsApart : Type 0
SaltsApart =
    (salt salt' : List ℕ) (a b : Small) → length salt ≡ 32 → length salt' ≡ 32 → (salt ≡ salt' → ⊥) → small_input salt a ≡ small_input salt' b → ⊥
