-- `bits::bit` meets its contract: the remainder by 2 after the shift is the bit.
-- Assumes nothing.
use Prim.Native.Nat.{◌/◌, ◌%◌}
use lib.ListN.{get_or}
use Rattle.bits.specs.Bits.{bit_at}
use Rattle.bits.proofs.Numbers.{bit-at}
use Rattle.bits.proofs.bit.Goals as goal

pub returns : goal.returns
unfolding bit_at
returns c =
    let k = c.args.k in
    bit-at (get_or c.args.s.now (k / 8) 0) (k % 8)
