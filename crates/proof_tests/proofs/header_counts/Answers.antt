-- `proof_tests::header_counts` meets its contract.
-- Assumes nothing.
use mathlib.Core.Path.{refl, ◌∙◌}
use native.Mathlib.Omega.{arith}
use Rattle.parties.proofs.Counts.{is_count, no_count}
use Rattle.proof_tests.proofs.Headers.{short-header, header-lone, header-fails, header-passes}
use Rattle.proof_tests.proofs.header_counts.Goals as goal

pub returns-then-proof-lt-HEADER_BYTES : goal.returns-then-proof-lt-HEADER_BYTES
returns-then-proof-lt-HEADER_BYTES c = short-header _ c.if-proof-lt-HEADER_BYTES.true

pub returns-in_err-h : goal.returns-in_err-h
returns-in_err-h c = c.from_residual.ensures ∙ header-lone c.args.proof.now _ _ _ (omega (arith, c.if-proof-lt-HEADER_BYTES.false)) c.read_u16-m.ensures c.read_u16-tau.ensures refl (no_count _ _ c.height.ensures c.in_err-h.was)

pub returns-then-not-counts : goal.returns-then-not-counts
returns-then-not-counts c = header-fails c.args.proof.now _ _ _ (omega (arith, c.if-proof-lt-HEADER_BYTES.false)) c.read_u16-m.ensures c.read_u16-tau.ensures refl _ c.counts.ensures c.then-not-counts.either

pub returns : goal.returns
returns c =
    header-passes c.args.proof.now _ _ _ (omega (arith, c.if-proof-lt-HEADER_BYTES.false)) c.read_u16-m.ensures c.read_u16-tau.ensures refl _ c.counts.ensures
    _ (is_count _ _ _ c.height.ensures c.in_ok-h.was) c.if-not-counts.false c.if-zero-ne0.false
