-- `rounds::stretch` meets its contract: h'_j alone, or what is sent of a chosen instance.
-- Assumes nothing.
use native.Mathlib.Omega.{arith}
use Rattle.circuit.specs.File.{circuit_of}
use Rattle.rounds.proofs.Responds.{shut-size, shut-made, hidden-size, hidden-made}
use Rattle.rounds.proofs.stretch.Goals as goal

pub copy-requires : goal.copy-requires
copy-requires c =
    let x = c.args in
    let p = c.requires in
    shut-size (circuit_of x.s.now) x.inst.parties x.p x.inst.context x.witness.now x.seed.now c.if-p-n.true x.part.now x.online.now
    p.1.1.1.1.1 p.1.1.1.1.0

pub send-requires : goal.send-requires
send-requires c =
    let x = c.args in
    let p = c.requires in
    (p.0, (p.1.0, (p.1.1.1.0, (omega (arith, p.1.1.0, c.if-p-n.false), hidden-size (circuit_of x.s.now) x.inst.parties x.p c.if-p-n.false x.part.now p.1.1.1.1.1))))

pub returns-then-p-n : goal.returns-then-p-n
returns-then-p-n c =
    let x = c.args in
    let p = c.requires in
    shut-made (circuit_of x.s.now) x.inst.parties x.p x.inst.context x.witness.now x.seed.now c.if-p-n.true _ _ c.copy.ensures
    p.1.1.1.1.0

pub returns-else-p-n : goal.returns-else-p-n
returns-else-p-n c =
    let x = c.args in
    hidden-made (circuit_of x.s.now) x.inst.parties x.p c.if-p-n.false x.inst.context x.witness.now x.seed.now _ c.send.ensures
