-- `bristol::writing::write_file` meets its contract: header, output wires and records make the file.
-- Assumes nothing.
use native.Mathlib.Omega.{arith}
use mathlib.Core.Path.{ap, ◌∙◌}
use mathlib.Core.List.{List, flatten}
use Prim.Native.Nat.{ℕ, ◌+◌, ◌-◌}
use lib.Seq.{sets}
use Rattle.bits.specs.Bits.{tabulate}
use Rattle.bits.specs.Bytes.{le_bytes}
use Rattle.circuit.specs.File.{width}
use Rattle.circuit.specs.Steps.{output_place}
use Rattle.building.specs.Steps.{four_bytes}
use Rattle.bristol_lines.specs.Steps.{stored}
use Rattle.bristol.proofs.Writes.{going_start, always-ok, next-line, filed-none, filed-some, room-sets}
use Rattle.bristol.proofs.writing.write_file.Goals as goal

pub write_fields-requires : goal.write_fields-requires
write_fields-requires c = omega (arith, c.requires.0.room)

pub write_outputs-requires : goal.write_outputs-requires
write_outputs-requires c =
    let x = c in
    room-sets x.args.z x.args.out.now _ x.requires.0 0 (four_bytes x.args.z.inputs x.args.z.outputs x.args.z.gates 0) c.write_fields.ensures

pub returns-then-z-eq0 : goal.returns-then-z-eq0
returns-then-z-eq0 c =
    let x = c in
    c.write_outputs.ensures
    ∙ ap (λ (l : List ℕ). sets l (output_place 0) (flatten (tabulate x.args.z.outputs (λ k. le_bytes width (x.args.z.inputs + x.args.z.gates - x.args.z.outputs + k))))) c.write_fields.ensures
    ∙ filed-none x.args.s.now x.args.z x.args.c.at x.requires.0.few x.requires.1 x.args.out.now x.requires.0.room c.if-z-eq0.true

pub unwrap-g-requires : goal.unwrap-g-requires
unwrap-g-requires c =
    let x = c in
    always-ok x.args.s.now x.args.z _ _ (going_start x.args.s.now x.args.z x.args.c.at x.requires.0.few x.requires.1) (omega arith) _ _ c.next_gate-gate.ensures

pub overflow_sub-slot : goal.overflow_sub-slot
overflow_sub-slot c =
    let x = c in
    let n = next-line x.args.s.now x.args.z _ _ (going_start x.args.s.now x.args.z x.args.c.at x.requires.0.few x.requires.1) (omega arith) _ _ c.next_gate-gate.ensures _ c.unwrap-g.ensures in
    omega (arith, c.output_wire.ensures, n.wire.low)

pub overflow_add-slot : goal.overflow_add-slot
overflow_add-slot c =
    let x = c in
    let n = next-line x.args.s.now x.args.z _ _ (going_start x.args.s.now x.args.z x.args.c.at x.requires.0.few x.requires.1) (omega arith) _ _ c.next_gate-gate.ensures _ c.unwrap-g.ensures in
    let f = x.requires.0.few in
    omega (arith, c.output_wire.ensures, n.wire.high, f.few_inputs, f.few_gates)

pub write_fields-requires-2 : goal.write_fields-requires-2
write_fields-requires-2 c =
    omega (arith, c.requires.0.room)

pub write_outputs-requires-2 : goal.write_outputs-requires-2
write_outputs-requires-2 c =
    let x = c in
    room-sets x.args.z x.args.out.now _ x.requires.0 0 (four_bytes x.args.z.inputs x.args.z.outputs x.args.z.gates (c.output_wire.result - x.args.z.inputs + 1)) c.write_fields-2.ensures

pub write_records-requires : goal.write_records-requires
write_records-requires c =
    let x = c in
    let n = next-line x.args.s.now x.args.z _ _ (going_start x.args.s.now x.args.z x.args.c.at x.requires.0.few x.requires.1) (omega arith) _ _ c.next_gate-gate.ensures _ c.unwrap-g.ensures in
    let r = room-sets x.args.z x.args.out.now _ x.requires.0 0 (four_bytes x.args.z.inputs x.args.z.outputs x.args.z.gates (c.output_wire.result - x.args.z.inputs + 1)) c.write_fields-2.ensures in
    record {
      room = room-sets x.args.z _ _ r (output_place 0) (flatten (tabulate x.args.z.outputs (λ k. le_bytes width (x.args.z.inputs + x.args.z.gates - x.args.z.outputs + k)))) c.write_outputs-2.ensures;
      wire = n.wire;
      some_gates = omega arith;
      going = n.going;
    }

pub returns : goal.returns
returns c =
    let x = c in
    let n = next-line x.args.s.now x.args.z _ _ (going_start x.args.s.now x.args.z x.args.c.at x.requires.0.few x.requires.1) (omega arith) _ _ c.next_gate-gate.ensures _ c.unwrap-g.ensures in
    let e = c.write_outputs-2.ensures ∙ ap (λ (l : List ℕ). sets l (output_place 0) (flatten (tabulate x.args.z.outputs (λ k. le_bytes width (x.args.z.inputs + x.args.z.gates - x.args.z.outputs + k))))) c.write_fields-2.ensures in
    c.write_records.ensures
    ∙ ap (stored _ _ _) e
    ∙ filed-some x.args.s.now x.args.z x.args.c.at x.requires.0.few x.requires.1 x.args.out.now x.requires.0.room _ _ _ n _ (ap (λ (w : ℕ). w - x.args.z.inputs + 1) c.output_wire.ensures)
