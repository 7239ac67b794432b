-- Pieces along runs: a string up to the first separator, and what follows it.
-- Assumes nothing.
use mathlib.Core.Path.{◌≡◌, refl, ap}
use mathlib.Core.Bool.{Bool, true, false, cond, not}
use mathlib.Core.List.{List, [], ◌∷◌}
use Prim.Native.Nat.{ℕ, suc, ◌≤◌, ◌<◌}
use native.Mathlib.Omega.{arith}
use lib.Dec.{eqb}
use lib.ListN.{length, take, drop}
use Rattle.bristol_text.specs.Text.{on_first, pieces}
use Rattle.bristol_text.specs.Steps.{run}

-- bytes other than sep
abbrev pub other : ℕ → ℕ → Bool
other sep x = not (eqb x sep)

module _ (sep : ℕ) where
  end_more : (x : ℕ) (s : List ℕ) (b : Bool) → eqb x sep ≡ b → suc (length s) ≤ cond (not b) (suc (run (other sep) s)) 0
      → (length s ≤ run (other sep) s → pieces sep s ≡ s ∷ []) → pieces sep (x ∷ s) ≡ (x ∷ s) ∷ []
  unfolding pieces on_first
  end_more x s true e h f = absurd (omega arith)
  end_more x s false e h f = rw (e, f (omega arith))

  -- a string without sep is one piece
  pub pieces_end : (s : List ℕ) → length s ≤ run (other sep) s → pieces sep s ≡ s ∷ []
  unfolding pieces run
  pieces_end [] h = refl
  pieces_end (x ∷ s) h = end_more x s (eqb x sep) refl h (pieces_end s)

  first_more : (x : ℕ) (s : List ℕ) (b : Bool) → eqb x sep ≡ b → run (other sep) (x ∷ s) < suc (length s)
      → (run (other sep) s < length s → pieces sep s ≡ take (run (other sep) s) s ∷ pieces sep (drop (suc (run (other sep) s)) s))
      → pieces sep (x ∷ s) ≡ take (run (other sep) (x ∷ s)) (x ∷ s) ∷ pieces sep (drop (suc (run (other sep) (x ∷ s))) (x ∷ s))
  unfolding pieces on_first run
  first_more x s true e h f = rw e
  first_more x s false e h f =
      let g : run (other sep) s < length s = omega (arith, rw e at h) in
      rw e (ap (on_first x) (f g))

  -- any other has a first piece, up to the first sep, and the pieces after it
  pub pieces-first : (s : List ℕ) → run (other sep) s < length s
      → pieces sep s ≡ take (run (other sep) s) s ∷ pieces sep (drop (suc (run (other sep) s)) s)
  unfolding pieces run
  pieces-first [] h = absurd (omega arith)
  pieces-first (x ∷ s) h = first_more x s (eqb x sep) refl h (pieces-first s)
