-- `choice::write_chosen` meets its contract: the loop's invariant is that the first k instances are written.
-- Assumes nothing.
use Rattle.choice.proofs.Choosing.{Written}
use Rattle.choice.proofs.write_chosen.Given as goal

abbrev pub invariant-loop-k : goal.invariant-loop-k
invariant-loop-k l = Written l.chosen l.n l.bytes l.out l.k
