-- `join::write_outputs` meets its contract. The loop's invariant: the first j output wires are written.
-- Assumes nothing.
use mathlib.Core.Path.{◌≡◌, refl, ap, ◌∙◌}
use Prim.Native.Nat.{ℕ, ◌+◌, ◌-◌}
use native.Mathlib.Omega.{arith}
use lib.ListN.{length}
use Rattle.join.proofs.Writes.{placed-none, placed-more, length-placed}
use Rattle.join.specs.Steps.{joined_fields, placed}
use Rattle.join.proofs.write_outputs.Goals as goal

pub overflow_add-n : goal.overflow_add-n
overflow_add-n c = omega (arith, c.requires.0.outputs)

pub loop-j-init : goal.loop-j-init
loop-j-init c =
    let x = c.args in
    (refl, placed-none (joined_fields x.first.now x.second.now) 4 x.out.now)

pub joined_output-wire-requires : goal.joined_output-wire-requires
joined_output-wire-requires c = (c.requires.0, omega arith)

pub overflow_add-j : goal.overflow_add-j
overflow_add-j c = omega (arith, c.requires.0.outputs)

pub overflow_mul-j : goal.overflow_mul-j
overflow_mul-j c = omega (arith, c.requires.0.outputs)

pub write_u32-requires : goal.write_u32-requires
write_u32-requires c = omega (arith, c.requires.1, c.loop-j.invariant.0)

pub loop-j-preserved : goal.loop-j-preserved
loop-j-preserved c =
    let x = c.args in
    let i = c.loop-j.invariant in
    let f = joined_fields x.first.now x.second.now in
    let e = placed-more f 4 _ x.out.now _ _ _ i.1 c.joined_output-wire.ensures c.write_u32.ensures in
    (ap length e ∙ length-placed f 4 _ x.out.now, e)

pub returns : goal.returns
returns c =
    let x = c.args in
    let i = c.loop-j.invariant in
    let e : c.loop-j.j ≡ x.y.outputs + x.z.outputs = omega arith in
    i.1 ∙ ap (λ (k : ℕ). placed (joined_fields x.first.now x.second.now) 4 k x.out.now) e
