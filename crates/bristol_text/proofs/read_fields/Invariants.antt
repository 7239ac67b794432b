-- `bristol_text::read_fields` meets its contract. The loop's invariant: what is told of the numbers that are left is told of all.
-- Assumes nothing.
use Prim.Native.Nat.{◌-◌}
use lib.ListN.{length}
use Rattle.bristol_text.proofs.Before.{Gathered}
use Rattle.bristol_text.proofs.read_fields.Given as goal

abbrev pub invariant-loop-at : goal.invariant-loop-at
invariant-loop-at l = Gathered l.l l.numbers l.at l.count

abbrev pub decreases-loop-at : goal.decreases-loop-at
decreases-loop-at l = length l.l - l.at
