-- `bristol::writing::write_records` meets its contract. The loop's invariant: storing the record of the gate that is held, and of those that are left, gives what storing all gives.
-- Assumes nothing.
use native.Mathlib.Omega.{arith}
use mathlib.Core.Path.{◌≡◌, ap}
use Prim.Native.Nat.{ℕ, ◌+◌, ◌-◌}
use Rattle.bristol.proofs.Writes.{held_start, held_more, held_all, always-ok, next-line, room-same}
use Rattle.bristol.proofs.writing.write_records.Goals as goal

pub loop-init : goal.loop-init
loop-init c =
    let x = c.args in
    held_start x.s.now x.z x.out.now x.first x.c.at c.requires

pub unwrap-h-requires : goal.unwrap-h-requires
unwrap-h-requires c =
    let x = c.args in
    always-ok x.s.now x.z _ _ c.loop.invariant.going (omega arith) _ _ c.next_gate-gate.ensures

pub overflow_sub-slot : goal.overflow_sub-slot
overflow_sub-slot c =
    let x = c.args in
    let n = next-line x.s.now x.z _ _ c.loop.invariant.going (omega arith) _ _ c.next_gate-gate.ensures _ c.unwrap-h.ensures in
    omega (arith, c.output_wire.ensures, n.wire.low)

pub overflow_add-slot : goal.overflow_add-slot
overflow_add-slot c =
    let x = c.args in
    let n = next-line x.s.now x.z _ _ c.loop.invariant.going (omega arith) _ _ c.next_gate-gate.ensures _ c.unwrap-h.ensures in
    let f = c.requires.room.few in
    omega (arith, c.output_wire.ensures, n.wire.high, f.few_inputs, f.few_gates)

pub write_record-requires : goal.write_record-requires
write_record-requires c =
    let x = c.args in
    (room-same x.z x.out.now _ c.requires.room c.loop.invariant.size, c.loop.invariant.wire)

pub loop-preserved : goal.loop-preserved
loop-preserved c =
    let x = c.args in
    let e : x.z.gates - (c.loop.counter + 1) ≡ x.z.gates - c.loop.counter - 1 = omega arith in
    rw e
    (held_more x.s.now x.z x.out.now _ _ _ _ _ c.loop.invariant (omega arith) _ _ c.next_gate-gate.ensures _ c.unwrap-h.ensures _
    (ap (λ (w : ℕ). w - x.z.inputs + 1) c.output_wire.ensures) _ c.write_record.ensures)

pub write_record-requires-2 : goal.write_record-requires-2
write_record-requires-2 c =
    let x = c.args in
    (room-same x.z x.out.now _ c.requires.room c.loop.invariant.size, c.loop.invariant.wire)

pub returns : goal.returns
returns c =
    let x = c.args in
    held_all x.s.now x.z x.out.now _ _ _ _ _ c.loop.invariant (omega arith) _ c.write_record-2.ensures
