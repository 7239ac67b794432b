-- The walk along a chain of slots (document 02, order 2), whatever the form of the file that holds it.
-- A chain has G slots; `link x` is the link that slot x holds, and `link 0` the head.
-- Assumes nothing.
use Rattle.std.specs.Prelude.{Bool, true, false, cond, ℕ, zero, suc, eqb, ltb}

-- what the walk comes to: a good end; or a fault, by its number and "the slot holding the offending link (0 for head)"
pub data Walk : Type 0 where
  ends : Walk
  fault : ℕ → ℕ → Walk

-- the walk from the link of slot x, with n of the G visits left: 19 "a link beyond G", 20 "an end before all G slots are visited",
-- 21 "a link other than 0 after G slots, a slot visited twice counted twice". "The first met on the walk is given; a link that is both
-- beyond G and after G slots counts as beyond G."
unfoldable pub walk_from : ℕ → (ℕ → ℕ) → ℕ → ℕ → Walk
walk_from G link zero x = cond (ltb G (link x)) (fault 19 x) (cond (eqb (link x) 0) ends (fault 21 x))
walk_from G link (suc n) x = cond (ltb G (link x)) (fault 19 x) (cond (eqb (link x) 0) (fault 20 x) (walk_from G link n (link x)))

-- the walk from the head: all G visits are left
abbrev pub walk : ℕ → (ℕ → ℕ) → Walk
walk G link = walk_from G link G 0

-- whether a walk ends well
unfoldable pub ends_well : Walk → Bool
ends_well ends = true
ends_well (fault k x) = false
