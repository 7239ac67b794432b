-- `cover::leaves` meets its contract.
-- Assumes nothing.
use native.Mathlib.Omega.{arith}
use native.Mathlib.Nat.{one-mul, mod-eq_of_lt}
use Prim.Native.Nat.{◌^◌, ◌<◌}
use lib.Pow.{pow-lt}
use Rattle.cover.proofs.leaves.Goals as goal

pub returns : goal.returns
returns c = let w : c.args.h < 64 = omega arith in rw (one-mul (2 ^ c.args.h)) (mod-eq_of_lt (pow-lt w))
