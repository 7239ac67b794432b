-- `derivation::committing::take_four` meets its contract.
-- Assumes nothing.
use native.Mathlib.Omega.{arith}
use mathlib.Core.Path.{◌≡◌, ap, ◌∙◌}
use Prim.Native.Nat.{ℕ, ◌+◌, ◌-◌, ◌*◌}
use lib.ListN.{take, drop}
use Rattle.keccak.specs.Steps.{absorbs}
use Rattle.derivation.proofs.Committed.{coms-four}
use Rattle.derivation.proofs.committing.take_four.Goals as goal

pub returns : goal.returns
returns c n corrections h =
    let o = c in
    let x = o.args in
    let e : 32 * x.i + 128 - 32 * x.i ≡ 128 = omega arith in
    c.absorb.ensures
    ∙ ap (absorbs 136 x.s)
    (c.four_commitments-c.ensures n corrections h
    ∙ coms-four x.j n x.i x.seeds.now corrections _ o.requires.1.1 (ap (λ (k : ℕ). take k (drop (32 * x.i) x.seeds.now)) e))
