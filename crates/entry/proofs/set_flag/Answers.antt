-- `entry::set_flag` meets its contract.
-- Assumes nothing.
use native.Mathlib.Omega.{arith}
use Rattle.entry.proofs.set_flag.Goals as goal

pub bounds-all-i : goal.bounds-all-i
bounds-all-i c = omega (arith, c.requires)
