-- The order of byte strings (document 02, order 11): "in ascending order of their files, compared byte by byte from the first".
-- Assumes nothing.
use Rattle.std.specs.Prelude.{◌≡◌, List, [], ◌∷◌, ◌⊎◌, ℕ, ◌<◌}
use Prim.{Unit}

-- the one string comes before the other: at the first place where they differ it has the lower byte, or it ends there
unfoldable pub Before : List ℕ → List ℕ → Type 0
Before [] [] = ⊥
Before [] (y ∷ t) = Unit {0}
Before (x ∷ s) [] = ⊥
Before (x ∷ s) (y ∷ t) = (x < y) ⊎ ((x ≡ y) × Before s t)
