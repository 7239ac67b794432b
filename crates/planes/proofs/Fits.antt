-- The layout fits the work memory of 64 (I + G) + 4,096 bytes, for every circuit and up to 64 parties.
-- Assumes nothing.
use Prim.Native.Nat.{ℕ, ◌+◌, ◌*◌, ◌≤◌}
use native.Mathlib.Nat.{mul-le-mul_right}
use native.Mathlib.Omega.{arith}
use Rattle.bits.specs.Bits.{oct}
use Rattle.planes.specs.Steps.{seeds_at, spare, corrections_at, rows_at, held_end}
use Rattle.planes.specs.declared.Layout.{Layout}

-- the bytes to spare are few
pub spare-small : (l : Layout) → spare l ≤ 2048
unfolding spare
spare-small l = omega arith

-- the seeds of 64 parties stand before the corrections
pub seeds-before : (l : Layout) → seeds_at l + 2048 ≤ corrections_at l
unfolding spare
seeds-before l = omega arith

-- what an instance of n parties takes, and 8 rows of broadcasts, where I + A is at most W and O at most 256
module _ (l : Layout) (low : l.inputs + l.ands ≤ l.wires) (few : l.outputs ≤ 256) where
  pub layout-fits : (n : ℕ) → n ≤ 64 → held_end l n ≤ 64 * l.wires + 4096
  unfolding spare
  layout-fits n h = omega (arith, mul-le-mul_right (oct (l.inputs + 2 * l.ands)) h)

  pub rows_fit : rows_at l + 8 * oct (l.ands + l.outputs) ≤ 64 * l.wires + 4096
  unfolding spare
  rows_fit = omega arith
