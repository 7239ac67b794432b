-- `bits::read_u32` meets its contract: the second two bytes are put above the first two.
-- Assumes nothing.
use native.Mathlib.Omega.{arith}
use Rattle.bits.proofs.Little.{or_above}
use Rattle.bits.proofs.read_u32.Goals as goal

pub returns : goal.returns
returns c =
    let x = c.args in
    or_above 32 2 2 x.s.now x.at _ _ (λ i. (c.shared_slice_known-1.given i).fits) (omega arith) c.read_u16.ensures c.read_u16-2.ensures
