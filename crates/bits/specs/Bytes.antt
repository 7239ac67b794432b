-- Numbers in byte strings, equal byte strings, and the rows of a flat buffer.
-- Document 01: "Numbers are little-endian; u8, u16, u32 are widths in bits."
-- Assumes nothing.
use Rattle.std.specs.Prelude.{Bool, true, false, cond, ◌&&◌, List, [], ◌∷◌, ℕ, zero, suc, ◌+◌, ◌*◌, ◌/◌, ◌%◌, eqb, leb, length, get_or, take, drop}

-- the number in the n bytes from place k on, lowest byte first
unfoldable pub le_at : ℕ → List ℕ → ℕ → ℕ
le_at zero s k = 0
le_at (suc n) s k = get_or s k 0 + 256 * le_at n s (k + 1)

-- the n lowest bytes of a number, lowest first
unfoldable pub le_bytes : ℕ → ℕ → List ℕ
le_bytes zero x = []
le_bytes (suc n) x = x % 256 ∷ le_bytes n (x / 256)

-- whether two byte strings are equal
unfoldable pub same_bytes : List ℕ → List ℕ → Bool
same_bytes [] [] = true
same_bytes [] (y ∷ t) = false
same_bytes (x ∷ s) [] = false
same_bytes (x ∷ s) (y ∷ t) = eqb x y && same_bytes s t

-- row i of a flat buffer of rows of len bytes: "one not wholly inside the buffer is the empty part"
unfoldable pub row_of : List ℕ → ℕ → ℕ → List ℕ
row_of s len i = cond (leb (i * len + len) (length s)) (take len (drop (i * len) s)) []
