-- What follows from a leaf and a seed. Document 01, "Seeds and digests"; document 02, order 10, has the salt after the tag: an instance j is
-- its number with the salt of its proof.
-- Assumes nothing.
use Rattle.std.specs.Prelude.{List, [], ◌∷◌, ℕ, ◌-◌, ◌%◌, ◌^◌, min, take, drop}
use Rattle.hashing.specs.declared.Context.{Context}
use Rattle.bits.specs.Bytes.{row_of}
use Rattle.keccak.specs.Sponge.{shake128, sha3_256}
use Rattle.hashing.specs.Inputs.{leaf_input, tape_input, commitment_input}

-- "SHAKE128(3, j, i, leaf) gives seed (16) and r (16)": the seed, then r
unfoldable pub seed_row : Context → ℕ → List ℕ → List ℕ
seed_row j i leaf = shake128 (leaf_input j i leaf) 32

-- the bytes with every bit from bit k on cleared
unfoldable pub clear_from : ℕ → List ℕ → List ℕ
clear_from k [] = []
clear_from k (x ∷ s) = x % 2 ^ min k 8 ∷ clear_from (k - 8) s

-- "the tape row is SHAKE128(4, j, i, seed), unused bits cleared": a row of len bytes, of which the first k bits are used
unfoldable pub tape_row : Context → ℕ → List ℕ → ℕ → ℕ → List ℕ
tape_row j i seed k len = clear_from k (shake128 (tape_input j i seed) len)

-- "com = SHA3-256(1, j, i, seed, corrections if i = n − 1, r)", the row being the seed and r
abbrev pub commitment_to : Context → ℕ → ℕ → List ℕ → List ℕ → List ℕ
commitment_to j n i row corrections = sha3_256 (commitment_input j n i (take 16 row) corrections (drop 16 row))

-- the same with row i of the flat buffer of rows
unfoldable pub commitment_of : Context → ℕ → ℕ → List ℕ → List ℕ → List ℕ
commitment_of j n i rows corrections = commitment_to j n i (row_of rows 32 i) corrections
