-- `four_sponges::store` meets its contract. The loop's invariant: the bytes of the first k states are in their rows.
-- Assumes nothing.
use native.Mathlib.Omega.{arith}
use mathlib.Core.Path.{◌≡◌, refl, sym, ap, ◌∙◌}
use Prim.Native.Nat.{ℕ, ◌+◌, ◌*◌, ◌≤◌}
use lib.ListN.{length}
use lib.Seq.{length-sets}
use Rattle.bits.proofs.Rows.{row_fits}
use Rattle.bits.specs.Bits.{tabulate}
use Rattle.keccak.specs.Steps.{byte_at, squeezes}
use Rattle.keccak.proofs.Steps.{squeezes-length}
use Rattle.four.specs.Steps.{state_of}
use Rattle.four_sponges.specs.Steps.{opened, stored}
use Rattle.four_sponges.proofs.Bytes.{squeezes-block}
use Rattle.four_sponges.proofs.Rows.{part-size, put-part, stored-turn}
use Rattle.four_sponges.proofs.store.Goals as goal
use Rattle.four_sponges.proofs.store.Goals.{In-loop-k}

-- the part of row k is in the rows
within : (c : In-loop-k)
    → c.loop-k.k * c.args.len + c.args.at + c.args.m ≤ length c.loop-k.rows
within c = omega (arith, row_fits 4 c.args.len c.loop-k.k c.loop-k-test.true, c.requires, c.loop-k.invariant.0)

pub loop-k-init : goal.loop-k-init
unfolding stored
loop-k-init c = (c.requires.1.1.1, refl)

pub loop-k-preserved : goal.loop-k-preserved
loop-k-preserved c =
    let x = c.args in
    let l = c.loop-k in
    let z = c.give.new.out in
    let a = l.k * x.len + x.at in
    let inside = within (goal.at.loop-k-preserved c).In-loop-k in
    let b : z ≡ squeezes x.rate x.m (opened (state_of l.k x.s.now)) =
    c.give.ensures
    ∙ ap (λ (n : ℕ). tabulate n (byte_at (state_of l.k x.s.now))) (part-size a x.m l.rows inside)
    ∙ sym (squeezes-block x.rate x.m (state_of l.k x.s.now) (omega (arith, c.requires))) in
    let n : length z ≡ x.m = ap length b ∙ squeezes-length x.rate x.m (opened (state_of l.k x.s.now)) in
    let q = put-part a x.m l.rows z inside n in (
      ap length q ∙ length-sets l.rows a z ∙ l.invariant.0,
      q ∙ stored-turn (λ i. squeezes x.rate x.m (opened (state_of i x.s.now))) x.at x.len l.k x.rows.now l.rows z l.invariant.1 b,
    )
