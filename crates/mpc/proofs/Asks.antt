-- What the numbers of a legal file are at most.
-- Assumes nothing.
use mathlib.Core.Path.{◌≡◌}
use mathlib.Core.List.{List}
use Prim.Native.Nat.{ℕ, ◌+◌, ◌≤◌}
use native.Mathlib.Omega.{arith}
use mir.Syntax.{w64}
use mir.Val.{Fits}
use Rattle.circuit.specs.File.{max_outputs, max_gates}
use Rattle.mpc.specs.Steps.{Known}
use Rattle.mpc.proofs.Opened.{sized, ands-low}

-- a small number fits
pub small : (x : ℕ) → x ≤ 4294967296 → Fits w64 x
small x l = omega (arith, l)

-- a memory that is as long as one with room has room
pub kept-room : (x y z : ℕ) → x ≡ y → z ≤ y → z ≤ x
kept-room x y z e l = omega (arith, e, l)

module _ (s : List ℕ) (i o g a : ℕ) (k : Known s (sized i o g a)) where
  -- the AND gates
  pub ands-few : a ≤ max_gates
  ands-few = omega (arith, ands-low s i o g a k, k.legal.laid.few_gates)

  -- the broadcasts of a party
  pub broadcasts-few : a + o ≤ max_gates + max_outputs
  broadcasts-few = omega (arith, ands-low s i o g a k, k.legal.laid.few_gates, k.legal.laid.few_outputs)

  -- their number fits
  pub broadcasts-small : Fits w64 (a + o)
  broadcasts-small = small (a + o) (omega (arith, broadcasts-few))
