-- `four_sponges::give_bytes` meets its contract. The loop's invariant: the first i bytes are in the slice.
-- Assumes nothing.
use native.Mathlib.Omega.{arith}
use Rattle.four_sponges.proofs.Bytes.{filled-end}
use Rattle.four_sponges.proofs.give_bytes.Goals as goal

pub returns : goal.returns
returns c = filled-end _ _ c.loop-i.i c.loop-i.out c.loop-i.invariant (omega arith)
