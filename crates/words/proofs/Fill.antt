-- Laws of `fill`, and one turn of a loop that fills.
-- Assumes nothing.
use mathlib.Core.Path.{◌≡◌, refl, sym, ap, ap₂, ◌∙◌}
use mathlib.Core.List.{List}
use mathlib.Core.Logic.{⊎_elim, ◌≢◌}
use Prim.Native.Nat.{ℕ, zero, suc, ◌+◌, ◌<◌}
use native.Mathlib.Numerals.{add-one}
use native.Mathlib.Nat.{add-zero, eq-or-lt_of_le, le_of_suc-le-suc}
use native.Mathlib.Omega.{arith}
use lib.ListN.{length, get_or, set, length-set}
use lib.Seq.{get_or-set_same, get_or-set_other}
use Rattle.words.specs.Steps.{fill}

module _ (pos f : ℕ → ℕ) (w : List ℕ) where
  pub fill-length : (k : ℕ) → length (fill pos f k w) ≡ length w
  unfolding fill
  fill-length zero = refl
  fill-length (suc k) = simp length-set (fill-length k)

  -- a place that is not filled keeps its byte
  pub fill-other : (k j : ℕ) → ((t : ℕ) → t < k → j ≢ pos t) → get_or (fill pos f k w) j 0 ≡ get_or w j 0
  unfolding fill
  fill-other zero j h = refl
  fill-other (suc k) j h =
      get_or-set_other (fill pos f k w) (pos k) j (f k) 0 (h k (omega arith)) ∙ fill-other k j (λ t l. h t (omega arith))

  -- a filled place that is not filled again has its byte
  pub fill-at : (k t : ℕ) → t < k → pos t < length w → ((u : ℕ) → t < u → u < k → pos t ≢ pos u) → get_or (fill pos f k w) (pos t) 0 ≡ f t
  unfolding fill
  fill-at zero t l h d = absurd (omega arith)
  fill-at (suc k) t l h d =
      ⊎_elim
      (λ e. rw e (get_or-set_same (fill pos f k w) (pos k) (f k) 0 (rw e at rw (sym (fill-length k)) at h)))
      (λ lt. get_or-set_other (fill pos f k w) (pos k) (pos t) (f k) 0 (d k lt (omega arith)) ∙ fill-at k t lt h (λ u a b. d u a (omega arith)))
      (eq-or-lt_of_le (le_of_suc-le-suc l))

  pub fill_none : w ≡ fill pos f 0 w
  unfolding fill
  fill_none = refl

  -- the code counts by + 1
  pub fill_more : (k : ℕ) → set (fill pos f k w) (pos k) (f k) ≡ fill pos f (k + 1) w
  unfolding fill
  fill_more k = rw add-one

-- one turn of a loop that fills: the code stores v, which is f k, at q, which is pos k
pub fill-turn : (pos f : ℕ → ℕ) (w t : List ℕ) (k q v : ℕ) → t ≡ fill pos f k w → q ≡ pos k → v ≡ f k → set t q v ≡ fill pos f (k + 1) w
fill-turn pos f w t k q v e p h = rw (e, p, h) (fill_more pos f w k)

-- a byte that the loop has not filled reads as at the start
pub fill-read : (pos f : ℕ → ℕ) (w t : List ℕ) (k j : ℕ) → t ≡ fill pos f k w → ((u : ℕ) → u < k → j ≢ pos u) → get_or t j 0 ≡ get_or w j 0
fill-read pos f w t k j e h = rw e (fill-other pos f w k j h)

pub fill-cong : (pos f g : ℕ → ℕ) (w : List ℕ) (k : ℕ) → ((t : ℕ) → t < k → f t ≡ g t) → fill pos f k w ≡ fill pos g k w
unfolding fill
fill-cong pos f g w zero h = refl
fill-cong pos f g w (suc k) h = ap₂ (λ (m : List ℕ) (v : ℕ). set m (pos k) v) (fill-cong pos f g w k (λ t l. h t (omega arith))) (h k (omega arith))

-- a fill of n places that goes on where one of k places stopped
pub fill-join : (pos f pos' f' : ℕ → ℕ) (w : List ℕ) (k n : ℕ) → ((z : ℕ) → z < n → pos' z ≡ pos (k + z)) → ((z : ℕ) → z < n → f' z ≡ f (k + z))
    → fill pos' f' n (fill pos f k w) ≡ fill pos f (k + n) w
unfolding fill
fill-join pos f pos' f' w k zero p q = ap (λ (i : ℕ). fill pos f i w) (sym (add-zero k))
fill-join pos f pos' f' w k (suc n) p q =
    let e : suc (k + n) ≡ k + suc n = omega arith in
    let i = fill-join pos f pos' f' w k n (λ z l. p z (omega arith)) (λ z l. q z (omega arith)) in
    ap₂ (λ (m : List ℕ) (v : ℕ). set m (pos' n) v) i (q n (omega arith))
    ∙ ap (λ (j : ℕ). set (fill pos f (k + n) w) j (f (k + n))) (p n (omega arith))
    ∙ ap (λ (j : ℕ). fill pos f j w) e
