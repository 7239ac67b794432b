-- `instance::seeding::four_used` meets its contract.
-- Assumes nothing.
use native.Mathlib.Omega.{arith}
use mathlib.Core.Path.{◌≡◌, ap, ap₂, ◌∙◌}
use mathlib.Core.Bool.{cond}
use mathlib.Core.List.{List, [], ◌∷◌}
use Prim.Native.Nat.{ℕ, suc, ◌+◌, ◌*◌}
use lib.Dec.{eqb}
use Rattle.instance.proofs.seeding.four_used.Goals as goal

pub returns : goal.returns
returns c =
    let x = c.args in
    let u : ℕ → ℕ = λ k. cond (eqb (suc k) x.n) (x.inputs + x.ands) (x.inputs + 2 * x.ands) in
    let e : x.i ≡ x.i + 0 = omega arith in
    ap₂ (λ (a : ℕ) (t : List ℕ). a ∷ t) (c.used_bits.ensures ∙ ap u e)
    (ap₂ (λ (a : ℕ) (t : List ℕ). a ∷ t) c.used_bits-2.ensures
    (ap₂ (λ (a : ℕ) (t : List ℕ). a ∷ t) c.used_bits-3.ensures (ap (λ (a : ℕ). a ∷ []) c.used_bits-4.ensures)))
