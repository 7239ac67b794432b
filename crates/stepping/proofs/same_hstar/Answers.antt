-- `stepping::same_hstar` meets its contract.
-- Assumes nothing.
use native.Mathlib.Omega.{arith}
use Rattle.proof_tests.proofs.Verified.{digest-length}
use Rattle.stepping.proofs.Stepped.{hstar-same}
use Rattle.stepping.proofs.same_hstar.Goals as goal

pub finish-requires : goal.finish-requires
finish-requires c = c.requires.0.0

pub finish-requires-2 : goal.finish-requires-2
finish-requires-2 c = c.requires.0.1

pub slice_bounds-transcript-end : goal.slice_bounds-transcript-end
slice_bounds-transcript-end c = digest-length _ _ c.finish.ensures

pub slice_bounds-transcript-end-2 : goal.slice_bounds-transcript-end-2
slice_bounds-transcript-end-2 c = digest-length _ _ c.finish-2.ensures

pub transcript-hstar-requires : goal.transcript-hstar-requires
transcript-hstar-requires c = tt

pub slice_bounds-same-end-2 : goal.slice_bounds-same-end-2
slice_bounds-same-end-2 c = omega (arith, c.requires.1)

pub same-requires : goal.same-requires
same-requires c = tt

pub returns : goal.returns
returns c = hstar-same c.args.d c.args.proof.now _ _ _ _ c.finish.ensures c.finish-2.ensures c.transcript-hstar.ensures c.same.ensures
