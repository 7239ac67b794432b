-- `bristol::writing::write_outputs` meets its contract. The loop's invariant: the numbers of the first wires are written.
-- Assumes nothing.
use native.Mathlib.Omega.{arith}
use Rattle.bristol.proofs.Stores.{outputs-start, outputs-more, outputs-all}
use Rattle.bristol.proofs.writing.write_outputs.Goals as goal

pub overflow_add-first : goal.overflow_add-first
overflow_add-first c =
    let r = c.requires in
    omega (arith, r.few.few_inputs, r.few.few_gates)

pub overflow_sub-first : goal.overflow_sub-first
overflow_sub-first c =
    let r = c.requires in
    omega (arith, r.few.enough)

pub loop-j-init : goal.loop-j-init
loop-j-init c =
    let x = c in
    outputs-start x.args.out.now _ _

pub output_place-requires : goal.output_place-requires
output_place-requires c =
    let r = c.requires in
    omega (arith, r.few.few_outputs)

pub overflow_add-first-in-loop-j : goal.overflow_add-first-in-loop-j
overflow_add-first-in-loop-j c =
    let r = c.requires in
    omega (arith, r.few.few_inputs, r.few.few_gates, r.few.few_outputs)

pub write_u32-requires : goal.write_u32-requires
write_u32-requires c =
    let r = c.requires in
    omega (arith, c.output_place.ensures, r.room, c.loop-j.invariant.room)

pub loop-j-preserved : goal.loop-j-preserved
loop-j-preserved c =
    let x = c in
    outputs-more x.args.out.now _ _ _ _ c.loop-j.invariant (omega arith) _ c.output_place.ensures _ c.write_u32.ensures

pub returns : goal.returns
returns c =
    let x = c in
    outputs-all x.args.out.now _ _ _ _ c.loop-j.invariant (omega arith)
