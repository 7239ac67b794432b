-- `bits::read_u16` meets its contract: the second byte is put above the first.
-- Assumes nothing.
use native.Mathlib.Omega.{arith}
use mathlib.Core.Path.{sym}
use Prim.Native.Nat.{◌+◌}
use Rattle.bits.proofs.Little.{le_at-one, or_above}
use Rattle.bits.proofs.read_u16.Goals as goal

pub returns : goal.returns
returns c =
    let x = c.args in
    or_above 16 1 1 x.s.now x.at _ _ (λ i. (c.shared_slice_known-2-1.given i).fits) (omega arith) (sym (le_at-one x.s.now x.at))
    (sym (le_at-one x.s.now (x.at + 1)))
