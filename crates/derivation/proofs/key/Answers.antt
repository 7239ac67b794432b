-- `derivation::key` meets its contract.
-- Assumes nothing.
use native.Mathlib.Omega.{arith}
use mathlib.Core.Path.{◌≡◌, ap, ◌∙◌}
use Prim.Native.Nat.{ℕ, ◌+◌, ◌-◌}
use lib.ListN.{take, drop}
use Rattle.derivation.proofs.key.Goals as goal

pub returns : goal.returns
returns c =
    let x = c.args in
    let e : x.at + 16 - x.at ≡ 16 = omega arith in
    c.copy.ensures ∙ ap (λ (k : ℕ). take k (drop x.at x.memory.now)) e
