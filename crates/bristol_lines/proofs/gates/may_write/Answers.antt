-- `bristol_lines::gates::may_write` meets its contract: by cases of the wire.
-- Assumes nothing.
use native.Mathlib.Omega.{arith}
use Rattle.bristol_lines.proofs.Lined.{write-input, write-flag, write-none}
use Rattle.bristol_lines.proofs.gates.may_write.Goals as goal

pub returns-then-wire-inputs : goal.returns-then-wire-inputs
returns-then-wire-inputs c =
    let x = c.args in
    write-input x.inputs x.gates x.wire x.flags.now (omega arith)

pub overflow_add-inputs : goal.overflow_add-inputs
overflow_add-inputs c =
    let p = c.requires in
    omega arith

pub bit-requires : goal.bit-requires
bit-requires c =
    let p = c.requires in
    omega (arith, p.0, p.1.0, p.1.1)

pub returns-then-wire-inputs-2 : goal.returns-then-wire-inputs-2
returns-then-wire-inputs-2 c =
    let x = c.args in
    write-flag x.inputs x.gates x.wire x.flags.now _ c.bit.ensures (omega arith) (omega arith)

pub returns : goal.returns
returns c =
    let x = c.args in
    write-none x.inputs x.gates x.wire x.flags.now (omega arith) (omega arith)
