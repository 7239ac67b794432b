-- `one_of::write_file` meets its contract. The loop's invariant: the header, the output and the first k slots are written.
-- Assumes nothing.
use mathlib.Core.Path.{refl, ap, ◌∙◌}
use Prim.Native.Nat.{◌-◌}
use native.Mathlib.Omega.{arith}
use Rattle.circuit.proofs.Slots.{width-known}
use Rattle.circuit.specs.File.{fields_of}
use Rattle.one_of.specs.OneOf.{relinked}
use Rattle.one_of.proofs.Written.{header-written, slots-more, all-written}
use Rattle.one_of.proofs.write_file.Goals as goal

pub field-requires : goal.field-requires
field-requires c =
    let x = c in
    (width-known, omega (arith, x.requires.given.laid.whole))

pub relinked-head-requires : goal.relinked-head-requires
relinked-head-requires c = c.requires.given.laid

pub overflow_cast-z : goal.overflow_cast-z
overflow_cast-z c =
    let x = c in
    omega (arith, x.requires.given.laid.few_inputs)

pub overflow_cast-total : goal.overflow_cast-total
overflow_cast-total c =
    let x = c in
    omega (arith, x.requires.given.few, x.requires.all)

pub write_four-requires : goal.write_four-requires
write_four-requires c =
    let x = c in
    omega (arith, x.requires.room)

pub overflow_add-z : goal.overflow_add-z
overflow_add-z c =
    let x = c in
    omega (arith, x.requires.given.few, x.requires.all, x.requires.given.laid.few_inputs)

pub overflow_sub-z : goal.overflow_sub-z
overflow_sub-z c =
    let x = c in
    omega (arith, x.requires.given.few, x.requires.all, x.requires.given.laid.few_inputs)

pub overflow_cast-z-2 : goal.overflow_cast-z-2
overflow_cast-z-2 c =
    let x = c in
    omega (arith, x.requires.given.few, x.requires.all, x.requires.given.laid.few_inputs)

pub write_u32-requires : goal.write_u32-requires
write_u32-requires c =
    let x = c in
    omega (arith, x.requires.room)

pub loop-k-init : goal.loop-k-init
loop-k-init c = (refl, λ first e. e)

pub overflow_add-k : goal.overflow_add-k
overflow_add-k c =
    let x = c in
    omega (arith, x.requires.given.few, x.requires.all, x.requires.given.laid.few_inputs)

pub slot_record-r-requires : goal.slot_record-r-requires
slot_record-r-requires c =
    let x = c in
    (x.requires.given, (x.requires.all, (omega arith, omega arith)))

pub overflow_mul-k : goal.overflow_mul-k
overflow_mul-k c =
    let x = c in
    omega (arith, x.requires.given.few, x.requires.all, x.requires.given.laid.few_inputs)

pub overflow_add-k-in-loop-k : goal.overflow_add-k-in-loop-k
overflow_add-k-in-loop-k c =
    let x = c in
    omega (arith, x.requires.given.few, x.requires.all, x.requires.given.laid.few_inputs)

pub write_four-requires-in-loop-k : goal.write_four-requires-in-loop-k
write_four-requires-in-loop-k c =
    let x = c in
    omega (arith, x.requires.room, c.loop-k.invariant)

pub loop-k-preserved : goal.loop-k-preserved
loop-k-preserved c =
    let x = c in
    let i = c.loop-k.invariant in
    slots-more x.args.s.now x.args.list.now x.args.z x.args.total x.args.out.now x.requires _ _ _ _ _ (omega arith) c.slot_record-r.ensures c.write_four-in-loop-k.ensures i

pub returns : goal.returns
returns c =
    let x = c in
    let i = c.loop-k.invariant in
    all-written x.args.s.now x.args.list.now x.args.z x.args.total x.args.out.now x.requires _ _ (omega arith) (i.1 x.args.out.now (header-written x.args.s.now x.args.list.now x.args.z x.args.total x.args.out.now x.requires _ _ _ _ (omega arith) (c.relinked-head.ensures ∙ ap (relinked (fields_of x.args.s.now)) c.field.ensures) c.write_four.ensures c.write_u32.ensures))
