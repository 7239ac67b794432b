-- `party::four_tapes` meets its contract: the streams, then the unused bits of each row cleared.
-- The loop's invariant: the first k rows are cleared.
-- Assumes nothing.
use native.Mathlib.Omega.{arith}
use mathlib.Core.Path.{◌≡◌, refl, sym, ap, ◌∙◌}
use mathlib.Core.List.{List}
use Prim.Native.Nat.{ℕ, ◌+◌, ◌*◌, ◌/◌, ◌≤◌}
use lib.ListN.{length, take, drop}
use lib.Seq.{sets, length-sets}
use Rattle.bits.proofs.Rows.{row_fits}
use Rattle.hashing.specs.Inputs.{tape_input}
use Rattle.keccak.specs.Sponge.{shake128}
use Rattle.keccak.proofs.Lengths.{length-shake128}
use Rattle.four_sponges.specs.Steps.{stored}
use Rattle.four_sponges.proofs.Rows.{part-size, put-part, stored-turn}
use Rattle.party.specs.Derive.{tape_row}
use Rattle.short.specs.Steps.{key_input}
use Rattle.party.proofs.Cleared.{cleared_row, clear-turn, clear-four}
use Rattle.party.proofs.four_tapes.Goals as goal
use Rattle.party.proofs.four_tapes.Goals.{In-loop-k}

-- row k is in the rows
within : (c : In-loop-k)
    → c.loop-k.k * (length c.four_rows.new.rows / 4) + length c.four_rows.new.rows / 4 ≤ length c.loop-k.rows
within c = omega (arith, row_fits 4 (length c.four_rows.new.rows / 4) c.loop-k.k c.loop-k-test.true, c.loop-k.invariant.0)

pub loop-k-init : goal.loop-k-init
unfolding stored
loop-k-init c = (omega (arith, c.four_rows.auto.rows, c.requires.1), refl)

pub loop-k-preserved : goal.loop-k-preserved
loop-k-preserved c =
    let x = c.args in
    let l = c.loop-k in
    let R = c.four_rows.new.rows in
    let len = length R / 4 in
    let z = c.clear_from.new.s in
    let inside = within (goal.at.loop-k-preserved c).In-loop-k in
    let e = clear-turn len R x.used l.k l.rows z l.invariant.1 c.clear_from.ensures in
    let n : length z ≡ len = c.clear_from.auto.s ∙ part-size (l.k * len) len l.rows inside in
    let q = put-part (l.k * len) len l.rows z inside n in
    let at : l.k * len ≡ l.k * len + 0 = omega arith in (
      ap length q ∙ length-sets l.rows (l.k * len) z ∙ l.invariant.0,
      q ∙ ap (λ (n : ℕ). sets l.rows n z) at ∙ stored-turn (cleared_row len R x.used) 0 len l.k R l.rows z l.invariant.1 e,
    )

pub returns : goal.returns
unfolding tape_row tape_input
returns c =
    let x = c.args in
    let l = c.loop-k in
    let R = c.four_rows.new.rows in
    let len = length R / 4 in
    let d = length x.rows.now / 4 in
    let g : ℕ → List ℕ = λ k. shake128 (key_input 4 x.j (x.i + k) (take 16 (drop (16 * k) x.seeds))) d in
    let e : l.k ≡ 4 = omega arith in
    let same : d ≡ len = ap (λ (n : ℕ). n / 4) (sym c.four_rows.auto.rows) in
    l.invariant.1 ∙ ap (λ (n : ℕ). stored (cleared_row len R x.used) 0 len n R) e
    ∙ clear-four len R x.used g c.four_rows.ensures (λ k h. length-shake128 (key_input 4 x.j (x.i + k) (take 16 (drop (16 * k) x.seeds))) d ∙ same)
