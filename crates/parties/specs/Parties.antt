-- The party counts. Document 02, order 13: "n of 2, 4, 8, 16, 32 and 64".
-- Assumes nothing.
use Rattle.std.specs.Prelude.{Bool, cond, not, ℕ, eqb, Option, Some, None}

-- log2 n, the height of the tree, for a party count n; 0 for any other number
unfoldable pub height_of : ℕ → ℕ
height_of n = cond (eqb n 2) 1 (cond (eqb n 4) 2 (cond (eqb n 8) 3 (cond (eqb n 16) 4 (cond (eqb n 32) 5 (cond (eqb n 64) 6 0)))))

-- whether n is a party count
unfoldable pub is_party_count : ℕ → Bool
is_party_count n = not (eqb (height_of n) 0)

-- the height for a party count n; None for any other number
unfoldable pub counted : ℕ → Option ℕ
counted n = cond (eqb (height_of n) 0) None (Some (height_of n))
