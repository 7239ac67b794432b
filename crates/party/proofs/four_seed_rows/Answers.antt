-- `party::four_seed_rows` meets its contract.
-- Assumes nothing.
use native.Mathlib.Omega.{arith}
use mathlib.Core.Path.{◌≡◌, ap, ◌∙◌}
use Prim.Native.Nat.{ℕ, ◌+◌, ◌*◌, ◌/◌}
use lib.ListN.{length, take, drop}
use Rattle.hashing.specs.Inputs.{leaf_input}
use Rattle.keccak.specs.Sponge.{shake128}
use Rattle.four_sponges.specs.Steps.{four_rows}
use Rattle.party.specs.Derive.{seed_row}
use Rattle.short.specs.Steps.{key_input}
use Rattle.party.proofs.four_seed_rows.Goals as goal

pub returns : goal.returns
unfolding seed_row leaf_input
returns c =
    let x = c.args in
    let e : length x.rows.now / 4 ≡ 32 = omega (arith, c.requires.1) in
    c.four_rows.ensures
    ∙ ap (λ (d : ℕ). four_rows (λ k. shake128 (key_input 3 x.j (x.i + k) (take 16 (drop (16 * k) x.leaves))) d)) e
