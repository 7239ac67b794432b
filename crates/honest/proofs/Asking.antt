-- What a challenge asks of each instance.
-- Assumes nothing.
use mathlib.Core.Path.{◌≡◌}
use mathlib.Core.Bool.{Bool, true, false, cond}
use mathlib.Core.List.{List, [], ◌∷◌}
use Prim.Native.Nat.{ℕ, suc, ◌≤◌, ◌<◌}
use native.Mathlib.Omega.{arith}
use lib.Dec.{eqb}
use lib.ListN.{get_or}
use Rattle.choice.proofs.Challenges.{challenge-sound}
use Rattle.instance.specs.Instance.{Asked, hiding}
use Rattle.proof.specs.Protocol.{asked, challenged}

-- a party that is hidden is below n
abbrev pub Below : ℕ → Asked → Type 0
Below n a = (p : ℕ) → a ≡ hiding p → p < n

-- so it is of every instance, where all parties named are
asked-below : (n : ℕ) (is ps : List ℕ) → ((k : ℕ) → get_or ps k 0 < n) → (j : ℕ) → Below n (asked is ps j)
unfolding asked
asked-below n [] ps h j p e = let z : ◌≡◌ {A = ℕ} 0 1 = cc in omega arith
asked-below n (i ∷ is) [] h j p e = let z : ◌≡◌ {A = ℕ} 0 1 = cc in omega arith
asked-below n (i ∷ is) (q ∷ ps) h j p e = go (eqb i j) e (asked-below n is ps (λ k. h (suc k)) j p)
  where
    go : (b : Bool) → cond b (hiding q) (asked is ps j) ≡ hiding p → (asked is ps j ≡ hiding p → p < n) → p < n
    go true e f = let s : q ≡ p = cc in rw (← s) (h 0)
    go false e f = f e

-- of every challenge
pub challenged-below : (M tau n : ℕ) (hstar bound : List ℕ) → tau ≤ M → 0 < n → (j : ℕ) → Below n (challenged M tau n hstar bound j)
unfolding challenged
challenged-below M tau n hstar bound w h j = asked-below n _ _ (challenge-sound M tau n hstar bound w h).hidden j
