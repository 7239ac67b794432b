-- `derivation::four_keys` meets its contract. The loop's invariant: the first k keys are read.
-- Assumes nothing.
use native.Mathlib.Omega.{arith}
use mathlib.Core.Path.{◌≡◌, refl, ap, ◌∙◌}
use Prim.Native.Nat.{ℕ, ◌+◌, ◌-◌, ◌*◌, ◌≤◌}
use lib.ListN.{length, take, drop, replicate, length-take}
use lib.Seq.{sets, length-sets}
use Rattle.bits.proofs.Rows.{row_fits}
use Rattle.four_sponges.specs.Steps.{stored}
use Rattle.four_sponges.proofs.Rows.{put-part, stored-turn, stored-whole}
use Rattle.derivation.proofs.Keys.{key_at, key-size}
use Rattle.derivation.proofs.four_keys.Goals as goal
use Rattle.derivation.proofs.four_keys.Goals.{In-loop-k}

-- key k is in the memory
within : (c : In-loop-k) → c.args.at + c.loop-k.k * c.args.step + 16 ≤ length c.args.memory.now
within c = omega (arith, row_fits 4 c.args.step c.loop-k.k c.loop-k-test.true, c.requires)

pub loop-k-init : goal.loop-k-init
unfolding stored
loop-k-init c = (refl, refl)

pub overflow_mul-from : goal.overflow_mul-from
overflow_mul-from c = omega (arith, within c)

pub overflow_add-from : goal.overflow_add-from
overflow_add-from c = omega (arith, within c)

pub overflow_add-from-in-loop-k : goal.overflow_add-from-in-loop-k
overflow_add-from-in-loop-k c = omega (arith, within c)

pub slice_bounds-copy-end : goal.slice_bounds-copy-end
slice_bounds-copy-end c = omega (arith, within c)

pub slice_bounds-keys-end : goal.slice_bounds-keys-end
slice_bounds-keys-end c = omega (arith, c.loop-k.invariant.0, c.loop-k-test.true)

pub loop-k-preserved : goal.loop-k-preserved
loop-k-preserved c =
    let x = c.args in
    let l = c.loop-k in
    let z = c.copy.new.to in
    let f = key_at x.memory.now x.at x.step c.requires in
    let from = x.at + l.k * x.step in
    let n : from + 16 - from ≡ 16 = omega arith in
    let e : z ≡ f l.k = c.copy.ensures ∙ ap (λ (m : ℕ). take m (drop from x.memory.now)) n in
    let inside : l.k * 16 + 16 ≤ length l.keys = omega (arith, l.invariant.0, c.loop-k-test.true) in
    let size : length z ≡ 16 = ap length e ∙ key-size x.memory.now x.at x.step c.requires l.k c.loop-k-test.true in
    let q = put-part (l.k * 16) 16 l.keys z inside size in
    let at : l.k * 16 ≡ l.k * 16 + 0 = omega arith in (
      ap length q ∙ length-sets l.keys (l.k * 16) z ∙ l.invariant.0,
      q ∙ ap (λ (n : ℕ). sets l.keys n z) at ∙ stored-turn f 0 16 l.k _ l.keys z l.invariant.1 e,
    )

pub returns : goal.returns
returns c =
    let x = c.args in
    let l = c.loop-k in
    let e : l.k ≡ 4 = omega arith in
    let f = key_at x.memory.now x.at x.step c.requires in
    l.invariant.1 ∙ ap (λ (n : ℕ). stored f 0 16 n (replicate 64 0)) e
    ∙ stored-whole f 16 (replicate 64 0) refl (λ k. omega (arith, length-take 16 (drop (x.at + k * x.step) x.memory.now)))
    (key-size x.memory.now x.at x.step c.requires)
