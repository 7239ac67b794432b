-- `proof_tests::unused_bits::stretch_unused` meets its contract.
-- Assumes nothing.
use native.Mathlib.Omega.{arith}
use mathlib.Core.List.{[]}
use Rattle.hashing.specs.Inputs.{context_of}
use Rattle.circuit.specs.File.{circuit_of}
use Rattle.proof_tests.proofs.Verified.{open-unused, hidden-size, hidden-test}
use Rattle.proof_tests.proofs.unused_bits.stretch_unused.Goals as goal

pub returns-then-p-n : goal.returns-then-p-n
returns-then-p-n c =
    let x = c.args in
    open-unused (circuit_of x.s.now) x.n (context_of [] 0) x.p [] [] x.part.now c.if-p-n.true

pub unused-requires : goal.unused-requires
unused-requires c =
    let x = c.args in
    let q = c.requires in
    (q.0, (q.1.0, (omega (arith, q.1.1.0, c.if-p-n.false), hidden-size (circuit_of x.s.now) x.n (context_of [] 0) x.p [] [] x.part.now c.if-p-n.false q.1.1.1)))

pub returns : goal.returns
returns c =
    let x = c.args in
    hidden-test (circuit_of x.s.now) x.n (context_of [] 0) x.p [] [] x.part.now c.if-p-n.false c.unused.result c.unused.ensures
