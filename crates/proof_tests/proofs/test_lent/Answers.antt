-- `proof_tests::test_lent` meets its contract.
-- Assumes nothing.
use mathlib.Core.Path.{refl, sym, ◌∙◌}
use native.Mathlib.Omega.{arith}
use lib.Seq.{length-take-le}
use Rattle.proof_tests.proofs.Headers.{headed-few, header-some, header-none}
use Rattle.proof_tests.proofs.Checks.{took-front}
use Rattle.proof_tests.proofs.Outcomes.{legal-length, legal-unused, legal-header, legal-headed, legal-tree, legal-done}
use Rattle.proof_tests.proofs.test_lent.Goals as goal

pub returns-then-not-holds : goal.returns-then-not-holds
returns-then-not-holds c =
    let x = c.args in record {
      result_value = legal-length _ _ _ _ _ c.requires.1.0 x.y.now x.message.now x.proof.now _ c.holds.ensures c.then-not-holds.either;
      took = tt;
    }

pub returns-then-not-unused_zero : goal.returns-then-not-unused_zero
returns-then-not-unused_zero c =
    let x = c.args in record {
      result_value = legal-unused _ _ _ _ _ c.requires.1.0 x.y.now x.message.now x.proof.now _ c.holds.ensures c.if-not-holds.false c.if-message-gt-MAX_MESSAGE.false _ c.unused_zero.ensures c.if-not-unused_zero.true-raw;
      took = tt;
    }

pub returns-in_default : goal.returns-in_default
returns-in_default c =
    let x = c.args in record {
      result_value = legal-header _ _ _ _ _ c.requires.1.0 x.y.now x.message.now x.proof.now _ c.holds.ensures c.if-not-holds.false c.if-message-gt-MAX_MESSAGE.false _ c.unused_zero.ensures c.if-not-unused_zero.false-raw _ refl (header-none _ _ c.header_counts.ensures c.in_default.is);
      took = tt;
    }

pub row_count-r-requires : goal.row_count-r-requires
row_count-r-requires c =
    let k = header-some _ _ _ c.header_counts.ensures c.in-Some.is in
    let x = c.args in
    headed-few _ _ _ _ _ _ (legal-headed _ _ _ _ _ c.requires.1.0 x.y.now x.message.now x.proof.now _ c.holds.ensures c.if-not-holds.false c.if-message-gt-MAX_MESSAGE.false _ c.unused_zero.ensures c.if-not-unused_zero.false-raw _ refl k.good _ _ _ k.is_M k.is_tau k.is_n c.requires.0)

pub slice_bounds-test_proof-end : goal.slice_bounds-test_proof-end
slice_bounds-test_proof-end c =
    let k = header-some _ _ _ c.header_counts.ensures c.in-Some.is in
    let x = c.args in
    omega (arith, c.requires.1.1.0, headed-few _ _ _ _ _ _ (legal-headed _ _ _ _ _ c.requires.1.0 x.y.now x.message.now x.proof.now _ c.holds.ensures c.if-not-holds.false c.if-message-gt-MAX_MESSAGE.false _ c.unused_zero.ensures c.if-not-unused_zero.false-raw _ refl k.good _ _ _ k.is_M k.is_tau k.is_n c.requires.0))

pub slice_bounds-test_proof-end-2 : goal.slice_bounds-test_proof-end-2
slice_bounds-test_proof-end-2 c =
    let k = header-some _ _ _ c.header_counts.ensures c.in-Some.is in
    let x = c.args in
    sym (length-take-le c.in-Some.k.instances x.table.now (omega (arith, c.requires.1.1.0, headed-few _ _ _ _ _ _ (legal-headed _ _ _ _ _ c.requires.1.0 x.y.now x.message.now x.proof.now _ c.holds.ensures c.if-not-holds.false c.if-message-gt-MAX_MESSAGE.false _ c.unused_zero.ensures c.if-not-unused_zero.false-raw _ refl k.good _ _ _ k.is_M k.is_tau k.is_n c.requires.0))))

pub slice_bounds-test_proof-end-3 : goal.slice_bounds-test_proof-end-3
slice_bounds-test_proof-end-3 c = omega (arith, c.requires.1.1.1, c.row_count-r.ensures.1)

pub slice_bounds-test_proof-end-4 : goal.slice_bounds-test_proof-end-4
slice_bounds-test_proof-end-4 c = sym (length-take-le c.row_count-r.result c.args.marks.now (omega (arith, c.requires.1.1.1, c.row_count-r.ensures.1)))

pub test_proof-requires : goal.test_proof-requires
test_proof-requires c =
    let k = header-some _ _ _ c.header_counts.ensures c.in-Some.is in
    let x = c.args in
    let p = c.requires.1.0 in
    let head = legal-headed _ _ _ _ _ p x.y.now x.message.now x.proof.now _ c.holds.ensures c.if-not-holds.false c.if-message-gt-MAX_MESSAGE.false _ c.unused_zero.ensures c.if-not-unused_zero.false-raw _ refl k.good _ _ _ k.is_M k.is_tau k.is_n c.requires.0 in (
      p,
      (
        legal-tree _ _ _ _ _ p x.y.now x.message.now x.proof.now _ c.holds.ensures c.if-not-holds.false c.if-message-gt-MAX_MESSAGE.false _ c.unused_zero.ensures c.if-not-unused_zero.false-raw _ refl k.good _ _ _ k.is_M k.is_tau k.is_n _ k.is_height,
        (
          head,
          (
            length-take-le c.in-Some.k.instances x.table.now (omega (arith, c.requires.1.1.0, headed-few _ _ _ _ _ _ head)),
            length-take-le c.row_count-r.result x.marks.now (omega (arith, c.requires.1.1.1, c.row_count-r.ensures.1)) ∙ c.row_count-r.ensures.0,
          ),
        ),
      ),
    )

pub returns : goal.returns
returns c =
    let k = header-some _ _ _ c.header_counts.ensures c.in-Some.is in
    let x = c.args in
    let p = c.requires.1.0 in record {
      result_value = legal-done _ _ _ _ _ p x.y.now x.message.now x.proof.now _ c.holds.ensures c.if-not-holds.false c.if-message-gt-MAX_MESSAGE.false _ c.unused_zero.ensures c.if-not-unused_zero.false-raw _ refl k.good _ _ _ k.is_M k.is_tau k.is_n _ c.test_proof.ensures.result_value;
      took = took-front c.test_proof.result x.s.now x.z x.y.now x.message.now x.proof.now _ _ _ _ c.test_proof.ensures.took;
    }
