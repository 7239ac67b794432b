-- `verifying::check_instance` meets its contract.
-- Assumes nothing.
use native.Mathlib.Omega.{arith}
use Rattle.circuit.specs.File.{circuit_of}
use Rattle.proof_tests.proofs.Verified.{open-online, open-answer, hidden-size, hidden-unused, hidden-answer}
use Rattle.verifying.proofs.check_instance.Goals as goal

pub reopen-commitments-requires : goal.reopen-commitments-requires
reopen-commitments-requires c =
    let q = c.requires in
    (q.0, q.1.1.0)

pub copy-requires : goal.copy-requires
copy-requires c =
    let x = c.args in
    open-online (circuit_of x.s.now) x.inst.parties x.inst.context x.p x.y.now x.master.now x.part.now c.if-p-n.true c.requires.1.1.1.0

pub returns-then-p-n : goal.returns-then-p-n
returns-then-p-n c =
    let x = c.args in
    open-answer (circuit_of x.s.now) x.inst.parties x.inst.context x.p x.y.now x.master.now x.part.now c.if-p-n.true c.reopen-commitments.result c.copy.new.to
    c.reopen-commitments.ensures c.copy.ensures

pub replay-requires : goal.replay-requires
replay-requires c =
    let x = c.args in
    let q = c.requires in
    (q.0, (omega (arith, q.1.0, c.if-p-n.false), (hidden-size (circuit_of x.s.now) x.inst.parties x.inst.context x.p x.y.now x.master.now x.part.now c.if-p-n.false q.1.1.1.0, hidden-unused (circuit_of x.s.now) x.inst.parties x.inst.context x.p x.y.now x.master.now x.part.now c.if-p-n.false q.1.1.1.1)))

pub returns : goal.returns
returns c =
    let x = c.args in
    let r = c.replay.result in
    hidden-answer (circuit_of x.s.now) x.inst.parties x.inst.context x.p x.y.now x.master.now x.part.now c.if-p-n.false r.agrees r.commitments r.online
    c.replay.ensures
