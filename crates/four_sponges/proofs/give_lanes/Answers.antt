-- `four_sponges::give_lanes` meets its contract. The loop's invariant: the bytes of the first i lanes are in the slice.
-- Assumes nothing.
use native.Mathlib.Omega.{arith}
use mathlib.Core.Path.{sym}
use Prim.Native.Nat.{◌*◌}
use lib.ListN.{length}
use Rattle.four.specs.Steps.{state_of}
use Rattle.four_sponges.proofs.Bytes.{lane_of, filled-lane, filled-end}
use Rattle.four_sponges.proofs.give_lanes.Goals as goal

pub loop-i-preserved : goal.loop-i-preserved
loop-i-preserved c =
    let x = c.args in
    let l = c.loop-i in
    filled-lane (length x.out.now) (state_of x.k x.s.now) l.i _ l.out _ l.invariant (omega arith)
    (sym (lane_of x.s.now x.k l.i (omega arith))) c.write_u64.ensures

pub returns : goal.returns
returns c = filled-end _ _ (8 * c.loop-i.i) c.loop-i.out c.loop-i.invariant (omega arith)
