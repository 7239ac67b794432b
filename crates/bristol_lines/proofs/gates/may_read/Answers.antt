-- `bristol_lines::gates::may_read` meets its contract: by cases of the wire.
-- Assumes nothing.
use native.Mathlib.Omega.{arith}
use Rattle.bristol_lines.proofs.Lined.{read-input, read-flag, read-own, read-end}
use Rattle.bristol_lines.proofs.gates.may_read.Goals as goal
use Rattle.bristol_lines.proofs.gates.may_read.Goals.{else-wire-own-via-then-wire-own+else-wire-lt-MAX_WIRES, else-wire-own-via-else-wire-own}

pub returns-then-wire-inputs : goal.returns-then-wire-inputs
returns-then-wire-inputs c =
    let x = c.args in
    read-input x.inputs x.own x.wire x.flags.now (omega arith)

pub returns-then-wire-lt-MAX_WIRES : goal.returns-then-wire-lt-MAX_WIRES
returns-then-wire-lt-MAX_WIRES c =
    let x = c.args in
    read-flag x.inputs x.own x.wire x.flags.now _ c.bit.ensures (omega arith) c.if-wire-own.true

pub returns : goal.returns
returns c =
    let x = c.args in
    elim c.else-wire-own.branch [
      | else-wire-own-via-then-wire-own+else-wire-lt-MAX_WIRES w ↦ read-end x.inputs x.own x.wire x.flags.now (omega arith) w.if-wire-own.true (omega (arith, w.if-wire-lt-MAX_WIRES.false))
      | else-wire-own-via-else-wire-own w ↦ read-own x.inputs x.own x.wire x.flags.now (omega arith) w.if-wire-own.false
    ]
