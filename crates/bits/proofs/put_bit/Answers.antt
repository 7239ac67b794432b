-- `bits::put_bit` meets its contract: the bit that is there is taken off and the new one is added, and the byte stays a byte.
-- Assumes nothing.
use native.Mathlib.Omega.{arith}
use Prim.Native.Nat.{◌/◌, ◌%◌, ◌^◌}
use lib.ListN.{get_or}
use Rattle.bits.specs.Bits.{odd, test_bit}
use Rattle.bits.specs.Steps.{put_bit}
use Rattle.bits.proofs.Packing.{test_bit-le, shift-bit, put-lt}
use Rattle.bits.proofs.put_bit.Goals as goal

pub overflow_sub-s : goal.overflow_sub-s
unfolding test_bit
overflow_sub-s c =
    let z = c.args.k % 8 in
    let x = get_or c.args.s.now (c.args.k / 8) 0 in
    omega (arith, test_bit-le x z, shift-bit 8 (x / 2 ^ z) z (omega arith))

pub overflow_add-s : goal.overflow_add-s
unfolding test_bit
overflow_add-s c =
    let z = c.args.k % 8 in
    let x = get_or c.args.s.now (c.args.k / 8) 0 in
    let b = c.args.b in
    record { fits = rw (shift-bit 8 (x / 2 ^ z) z (omega arith), shift-bit 8 b z (omega arith)) (put-lt 8 x z (odd b) (c.slice_known-1.given (c.args.k / 8)).fits (omega arith)) }

pub returns : goal.returns
unfolding put_bit test_bit
returns c =
    let z = c.args.k % 8 in
    let x = get_or c.args.s.now (c.args.k / 8) 0 in
    let b = c.args.b in
    rw (shift-bit 8 (x / 2 ^ z) z (omega arith), shift-bit 8 b z (omega arith))
