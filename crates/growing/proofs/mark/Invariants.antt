-- `growing::mark` meets its contract: from the last node down, every node from k on has its mark.
-- Assumes nothing.
use Rattle.growing.proofs.Marking.{Marked}
use mathlib.Core.Path.{◌≡◌}
use lib.ListN.{length}
use Rattle.growing.proofs.mark.Given as goal

abbrev pub invariant-loop-k : goal.invariant-loop-k
invariant-loop-k l = (length l.marks ≡ length l.initial.marks) × Marked l.h l.m l.table l.none l.marks l.k
