-- What only the contracts of steps use: no definition of the paper stands here.
-- Assumes nothing.
use Rattle.std.specs.Prelude.{List, ◌++◌, ℕ, zero, suc, ◌+◌, ◌*◌}
use Rattle.std.proofs.lemmas.List.Edits.{sets}
use Rattle.keccak.specs.declared.sponge.Sponge.{Sponge}

-- a sponge whose block is full
abbrev pub full : ℕ → List ℕ → Sponge
full rate l = record { lanes = l; fill = rate }

-- a sponge before the first byte of its block
abbrev pub opened : List ℕ → Sponge
opened l = record { lanes = l; fill = 0 }

-- f 0 to f (k - 1), each in its row of len bytes, from byte `start` of the row on
unfoldable pub stored : (ℕ → List ℕ) → ℕ → ℕ → ℕ → List ℕ → List ℕ
stored f start len zero rows = rows
stored f start len (suc k) rows = sets (stored f start len k rows) (k * len + start) (f k)

-- four rows one after the other
abbrev pub four_rows : (ℕ → List ℕ) → List ℕ
four_rows f = f 0 ++ f 1 ++ f 2 ++ f 3
