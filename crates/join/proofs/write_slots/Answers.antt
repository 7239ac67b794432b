-- `join::write_slots` meets its contract. The loop's invariant: the first k slots are written.
-- Assumes nothing.
use mathlib.Core.Path.{◌≡◌, refl, ap, ◌∙◌}
use Prim.Native.Nat.{ℕ, ◌+◌, ◌-◌, ◌*◌}
use native.Mathlib.Omega.{arith}
use lib.ListN.{length}
use Rattle.join.proofs.Writes.{placed-none, slot-more, length-placed}
use Rattle.join.specs.Steps.{slots_at, joined_fields, placed}
use Rattle.join.proofs.write_slots.Goals as goal

pub overflow_add-n : goal.overflow_add-n
overflow_add-n c = omega (arith, c.requires.0.gates)

pub loop-k-init : goal.loop-k-init
loop-k-init c =
    let x = c.args in
    (refl, placed-none (joined_fields x.first.now x.second.now) (slots_at x.y x.z) x.out.now)

pub write_slot-requires : goal.write_slot-requires
write_slot-requires c =
    let x = c in
    (x.requires.0, (x.requires.1.0, (omega arith, omega (arith, x.requires.1.1, c.loop-k.invariant.0))))

pub loop-k-preserved : goal.loop-k-preserved
loop-k-preserved c =
    let x = c in
    let i = c.loop-k.invariant in
    let f = joined_fields x.args.first.now x.args.second.now in
    let e = slot-more x.args.first.now x.args.second.now x.args.y x.args.z x.requires.0 _ x.args.out.now _ _ i.1 c.write_slot.ensures in
    (ap length e ∙ length-placed f (slots_at x.args.y x.args.z) _ x.args.out.now, e)

pub returns : goal.returns
returns c =
    let x = c.args in
    let i = c.loop-k.invariant in
    let e : c.loop-k.k ≡ x.y.gates + x.z.gates = omega arith in
    i.1 ∙ ap (λ (k : ℕ). placed (joined_fields x.first.now x.second.now) (slots_at x.y x.z) (4 * k) x.out.now) e
