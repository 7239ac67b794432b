-- What only the contracts of steps use: no definition of the paper stands here.
-- Assumes nothing.
use Rattle.std.specs.Prelude.{List, ◌∷◌, ◌++◌, ℕ}
use Rattle.bits.specs.Bytes.{le_bytes}
use Rattle.hashing.specs.declared.Context.{Context}

-- what party i of instance j hashes under a tag, from a key: leaf_input and tape_input are this with the tags 3 and 4
abbrev pub key_input : ℕ → Context → ℕ → List ℕ → List ℕ
key_input tag j i key = (tag ∷ j.salt) ++ (le_bytes 2 j.number ++ le_bytes 1 i) ++ key
