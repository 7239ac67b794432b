-- `hashing::shake128` meets its contract.
-- Assumes nothing.
use Rattle.keccak.specs.Steps.{closed, squeezes}
use Rattle.hashing.proofs.Hashes.{closed-shake128}
use native.Mathlib.Omega.{arith}
use mathlib.Core.Path.{ap, ◌∙◌}
use lib.ListN.{length}
use Rattle.hashing.proofs.shake128.Goals as goal

pub squeeze-requires : goal.squeeze-requires
unfolding closed
squeeze-requires c = rw c.close128-s.ensures (omega arith)

pub returns : goal.returns
returns c =
    let o = c in
    let x = o.args in
    c.squeeze.ensures.bytes ∙ ap (squeezes 168 (length x.out.now)) c.close128-s.ensures
    ∙ closed-shake128 x.tag x.salt.now x.head.now x.body.now (length x.out.now) o.ranges.tag.fits
    (λ i. (c.shared_slice_known-1.given i).fits)
    (λ i. (c.shared_slice_known-2-1.given i).fits)
    (λ i. (c.shared_slice_known-3-1.given i).fits)
