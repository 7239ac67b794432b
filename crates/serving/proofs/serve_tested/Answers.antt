-- `serving::serve_tested` meets its contract.
-- Assumes nothing.
use borrow.Author.Rules.{rules}
use mathlib.Core.Path.{◌∙◌}
use native.Mathlib.Omega.{arith}
use Rattle.circuit.specs.File.{circuit_of}
use Rattle.circuit.proofs.Answered.{fell, held}
use Rattle.proof.specs.Steps.{asks_in}
use Rattle.proof_tests.proofs.Checks.{tested-opened}
use Rattle.shared.proofs.Services.{more-fits, next-beyond, next-output, next-taken}
use Rattle.serving.proofs.serve_tested.Goals as goal

pub returns-then-j-m : goal.returns-then-j-m
returns-then-j-m c =
    let x = c.args in
    search rules ∙ next-beyond (circuit_of x.s.now) x.f.counts.instances x.f.counts.parties (asks_in x.f.counts.parties x.table.now) x.y.now x.proof.now x.job c.if-j-m.true

pub check_one-r-requires : goal.check_one-r-requires
check_one-r-requires c = (c.requires.0, (c.requires.1.0, omega (arith, c.if-j-m.false)))

pub returns-then-not-r : goal.returns-then-not-r
returns-then-not-r c =
    let x = c.args in
    search rules ∙ next-output (circuit_of x.s.now) x.f.counts.instances x.f.counts.parties (asks_in x.f.counts.parties x.table.now) x.y.now x.proof.now x.job (omega (arith, c.if-j-m.false)) (fell _ _ c.check_one-r.ensures.0 c.if-not-r.true)

pub settled_both-d-requires : goal.settled_both-d-requires
settled_both-d-requires c = tt

pub take_digests-e-requires : goal.take_digests-e-requires
take_digests-e-requires c = c.settled_both-d.ensures.1

pub taken_in-requires : goal.taken_in-requires
taken_in-requires c =
    let x = c.args in (
      more-fits _ _ _ _ c.settled_both-d.ensures.1 c.take_digests-e.ensures,
      (
        omega (arith, tested-opened x.s.now x.f x.proof.now x.table.now x.marks.now c.requires.0),
        (c.requires.1.1, omega (arith, c.if-j-m.false)),
      ),
    )

pub returns : goal.returns
returns c =
    let x = c.args in
    next-taken (circuit_of x.s.now) x.f.counts.instances x.f.counts.parties (asks_in x.f.counts.parties x.table.now) x.y.now x.proof.now x.job (omega (arith, c.if-j-m.false)) (held _ _ c.check_one-r.ensures.0 c.if-not-r.false) _ _ _ _ _ c.settled_both-d.ensures.0 c.check_one-r.ensures.1.0 c.check_one-r.ensures.1.1 c.take_digests-e.ensures c.taken_in.ensures
