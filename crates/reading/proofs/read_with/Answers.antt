-- `reading::read_with` meets its contract.
-- Assumes nothing.
use mathlib.Core.Path.{sym, ap, ◌∙◌}
use Prim.Native.Nat.{◌+◌, ◌*◌}
use native.Mathlib.Omega.{arith}
use Rattle.circuit.specs.Operations.{read_answer}
use Rattle.circuit.proofs.Readings.{fell, held, read_short, read-limits, read_length, read-rest, header, limits-few, length-same, length-other}
use Rattle.circuit.proofs.Slots.{fits, times-few}
use Rattle.reading.proofs.read_with.Goals as goal

pub overflow_mul-bytes : goal.overflow_mul-bytes
overflow_mul-bytes c = omega (arith, times-few _ 4 c.requires.0)

pub returns-then-s-bytes : goal.returns-then-s-bytes
returns-then-s-bytes c = rw c.into.ensures (sym (read_short _ _ _ c.if-s-bytes.true))

pub field-inputs-requires : goal.field-inputs-requires
field-inputs-requires c = (c.requires.0, fits _ 4 0 _ (omega arith) c.if-s-bytes.false)

pub field-outputs-requires : goal.field-outputs-requires
field-outputs-requires c = (c.requires.0, fits _ 4 1 _ (omega arith) c.if-s-bytes.false)

pub field-gates-requires : goal.field-gates-requires
field-gates-requires c = (c.requires.0, fits _ 4 2 _ (omega arith) c.if-s-bytes.false)

pub field-head-requires : goal.field-head-requires
field-head-requires c = (c.requires.0, fits _ 4 3 _ (omega arith) c.if-s-bytes.false)

pub overflow_mul-sized-2 : goal.overflow_mul-sized-2
overflow_mul-sized-2 c = omega (arith, times-few _ (4 + c.field-outputs.result + 4 * c.field-gates.result) c.requires.0)

pub returns-then-not-limited : goal.returns-then-not-limited
returns-then-not-limited c =
    let e = header _ _ _ _ _ _ c.field-inputs.ensures c.field-outputs.ensures c.field-gates.ensures c.within_limits-limited.ensures in
    rw c.into-then-not-limited.ensures (sym (read-limits _ _ _ c.if-s-bytes.false (fell _ _ e c.if-not-limited.true-raw)))

pub read_body-requires : goal.read_body-requires
read_body-requires c =
    let l = c.if-sized.true in
    let m = limits-few _ _ _ _ (held _ _ c.within_limits-limited.ensures c.if-not-limited.false-raw) in
    let p = c.requires in
    record {
      laid = record { known = p.0; inputs = c.field-inputs.ensures; outputs = c.field-outputs.ensures; gates = c.field-gates.ensures; few_inputs = m.0; few_outputs = m.1.0; few_gates = omega (arith, m.1.1, p.1); whole = l };
      head = c.field-head.ensures;
    }

pub returns-then-sized : goal.returns-then-sized
returns-then-sized c =
    let e = header _ _ _ _ _ _ c.field-inputs.ensures c.field-outputs.ensures c.field-gates.ensures c.within_limits-limited.ensures in
    let l = length-same _ _ _ _ c.field-outputs.ensures c.field-gates.ensures c.if-sized.true in
    c.read_body.ensures
    ∙ sym (ap read_answer (read-rest _ _ _ c.if-s-bytes.false (held _ _ e c.if-not-limited.false-raw) l))

pub returns-else-sized : goal.returns-else-sized
returns-else-sized c =
    let e = header _ _ _ _ _ _ c.field-inputs.ensures c.field-outputs.ensures c.field-gates.ensures c.within_limits-limited.ensures in
    let d = length-other _ _ _ _ c.field-outputs.ensures c.field-gates.ensures c.if-sized.false in
    rw c.into-else-sized.ensures (sym (read_length _ _ _ c.if-s-bytes.false (held _ _ e c.if-not-limited.false-raw) d))
