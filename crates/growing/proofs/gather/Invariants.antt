-- `growing::gather` meets its contract: the rows of the opened nodes below k stand one after the other.
-- Assumes nothing.
use Rattle.bits.specs.Bytes.{row_of}
use Rattle.cover.specs.Steps.{opened_by}
use Rattle.growing.proofs.Writing.{Written}
use mathlib.Core.Path.{◌≡◌}
use lib.ListN.{length}
use Rattle.growing.proofs.gather.Given as goal

abbrev pub invariant-loop-k : goal.invariant-loop-k
invariant-loop-k l = (length l.out ≡ length l.initial.out) × Written (opened_by l.marks) (row_of l.nodes 16) l.k l.at l.out
