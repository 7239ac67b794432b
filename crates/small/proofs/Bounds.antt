-- The numbers of gates, pairs and files are small.
-- Assumes nothing.
use Prim.Native.Nat.{ℕ, zero, suc, ◌+◌, ◌*◌, ◌≤◌}
use native.Mathlib.Nat.{mul-le-mul}
use native.Mathlib.Omega.{arith}
use Rattle.small.specs.Steps.{gates_on, pairs, per_head, count_of}
use Rattle.small.proofs.Files.{gates-some, pairs-some}

product-low : (a b x y : ℕ) → a ≤ x → b ≤ y → a * b ≤ x * y
product-low a b x y h l = mul-le-mul {n₁ = a} {m₁ = b} {n₂ = x} {m₂ = y} h l

pub square-low : (w n : ℕ) → w ≤ n → w * w ≤ n * n
square-low w n h = product-low w w n n h h

pub square-some : (w : ℕ) → 1 ≤ w → 1 ≤ w * w
square-some w h = product-low 1 1 w w h h

pub gates-low : (w : ℕ) → w ≤ 3 → gates_on w ≤ 21
unfolding gates_on
gates-low w h = omega (arith, square-low w 3 h)

pub inputs-low : (w : ℕ) → w ≤ 2 → gates_on w ≤ 10
unfolding gates_on
inputs-low w h = omega (arith, square-low w 2 h)

module _ (I : ℕ) (few : I ≤ 2) where
  pub pairs-low : pairs I ≤ 210
  unfolding pairs
  pairs-low = product-low (gates_on I) (gates_on (I + 1)) 10 21 (inputs-low I few) (gates-low (I + 1) (omega arith))

  pub head-low : per_head I ≤ 840
  unfolding per_head
  head-low = product-low (I + 2) (pairs I) 4 210 (omega arith) pairs-low

  pub one-low : (I + 1) * gates_on I ≤ 30
  one-low = product-low (I + 1) (gates_on I) 3 10 (omega arith) (inputs-low I few)

  pub count_low : (G : ℕ) → count_of I G ≤ 1680
  unfolding count_of
  count_low zero = omega arith
  count_low (suc zero) = omega (arith, one-low)
  count_low (suc (suc n)) = omega (arith, head-low)

  pub head-some : 1 ≤ I → 1 ≤ per_head I
  unfolding per_head
  head-some some = product-low 1 1 (I + 2) (pairs I) (omega arith) (pairs-some I some)

  pub count-some : 1 ≤ I → (G : ℕ) → 1 ≤ count_of I G
  unfolding count_of
  count-some some zero = some
  count-some some (suc zero) = product-low 1 1 (I + 1) (gates_on I) (omega arith) (gates-some I I some)
  count-some some (suc (suc n)) = omega (arith, head-some some)
