-- The party count of a tree, and its height.
-- Assumes nothing.
use mathlib.Core.Path.{◌≡◌, sym, ◌∙◌}
use mathlib.Core.Bool.{true, false}
use Prim.Native.Nat.{ℕ, ◌≤◌}
use native.Mathlib.Omega.{arith}
use Rattle.parties.proofs.Counts.{Sizes, sizes, count_no, height-small}
use Rattle.mpc.specs.Steps.{Parties}
use Rattle.instance.specs.Steps.{Tree}

-- false is not true
never : false ≡ true → ⊥
never e = let z : ◌≡◌ {A = ℕ} 0 1 = cc in omega arith

-- a tree is that of a party count
pub tree-sizes : (n h : ℕ) → Tree n h → Sizes n
tree-sizes n h t = sizes n (λ e. never (sym (count_no n e) ∙ t.parties))

pub tree-parties : (n h : ℕ) → Tree n h → Parties n
tree-parties n h t = let z = tree-sizes n h t in record { some = omega (arith, z.some); few = z.few }

-- it is low
pub tree-low : (n h : ℕ) → Tree n h → h ≤ 6
tree-low n h t = omega (arith, height-small n, t.height)
