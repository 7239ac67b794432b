-- `proof::asking::stretch_bytes` meets its contract.
-- Assumes nothing.
use native.Mathlib.Omega.{arith}
use Rattle.circuit.specs.File.{circuit_of}
use Rattle.parties.proofs.Counts.{height-small}
use Rattle.mpc.proofs.Asks.{ands-few, broadcasts-few}
use Rattle.proof.proofs.Sizes.{size-opened, size-hiding, sent-few}
use Rattle.proof.proofs.asking.stretch_bytes.Goals as goal

pub returns-then-p-n : goal.returns-then-p-n
returns-then-p-n c = let x = c.args in size-opened (circuit_of x.s.now) x.n x.p c.if-p-n.true

pub oct-requires : goal.oct-requires
oct-requires c = tt

pub overflow_add-ands : goal.overflow_add-ands
overflow_add-ands c =
    let b = c in
    let x = b.args in
    omega (arith, broadcasts-few x.s.now x.z.inputs x.z.outputs x.z.gates x.z.ands b.requires.0)

pub oct-requires-2 : goal.oct-requires-2
oct-requires-2 c = tt

pub overflow_add-row : goal.overflow_add-row
overflow_add-row c =
    let b = c in
    let x = b.args in
    omega (arith, broadcasts-few x.s.now x.z.inputs x.z.outputs x.z.gates x.z.ands b.requires.0, b.requires.0.legal.laid.few_inputs, c.oct-2.ensures, c.oct.ensures)

pub overflow_mul-result : goal.overflow_mul-result
overflow_mul-result c =
    let b = c in
    omega (arith, b.requires.1.0.height, height-small b.args.n)

pub sent_bytes-requires : goal.sent_bytes-requires
sent_bytes-requires c =
    let b = c in
    let x = b.args in
    (ands-few x.s.now x.z.inputs x.z.outputs x.z.gates x.z.ands b.requires.0, omega (arith, b.requires.1.1, c.if-p-n.false))

pub overflow_add-result : goal.overflow_add-result
overflow_add-result c =
    let b = c in
    let x = b.args in
    let v = sent-few x.s.now x.z.inputs x.z.outputs x.z.gates x.z.ands b.requires.0 x.n x.p c.sent_bytes.result c.sent_bytes.ensures in
    omega (arith, b.requires.1.0.height, height-small x.n)

pub overflow_add-result-2 : goal.overflow_add-result-2
overflow_add-result-2 c =
    let b = c in
    let x = b.args in
    let v = sent-few x.s.now x.z.inputs x.z.outputs x.z.gates x.z.ands b.requires.0 x.n x.p c.sent_bytes.result c.sent_bytes.ensures in
    omega (arith, b.requires.1.0.height, height-small x.n)

pub overflow_add-result-3 : goal.overflow_add-result-3
overflow_add-result-3 c =
    let b = c in
    let x = b.args in
    let v = sent-few x.s.now x.z.inputs x.z.outputs x.z.gates x.z.ands b.requires.0 x.n x.p c.sent_bytes.result c.sent_bytes.ensures in
    let w = broadcasts-few x.s.now x.z.inputs x.z.outputs x.z.gates x.z.ands b.requires.0 in
    omega (arith, b.requires.1.0.height, height-small x.n, b.requires.0.legal.laid.few_inputs, c.oct-2.ensures, c.oct.ensures)

pub returns : goal.returns
returns c =
    let b = c in
    let x = b.args in
    size-hiding x.s.now x.z.inputs x.z.outputs x.z.gates x.z.ands b.requires.0 x.n x.h x.p c.sent_bytes.result
    c.oct.result c.oct-2.result b.requires.1.0 b.requires.1.1 c.if-p-n.false
    c.sent_bytes.ensures c.oct.ensures c.oct-2.ensures
