-- `bits::read_u64` meets its contract: the second four bytes are put above the first four.
-- Assumes nothing.
use native.Mathlib.Omega.{arith}
use Rattle.bits.proofs.Little.{or_above}
use Rattle.bits.proofs.read_u64.Goals as goal

pub returns : goal.returns
returns c =
    let x = c.args in
    or_above 64 4 4 x.s.now x.at _ _ (λ i. (c.shared_slice_known-1.given i).fits) (omega arith) c.read_u32.ensures c.read_u32-2.ensures
