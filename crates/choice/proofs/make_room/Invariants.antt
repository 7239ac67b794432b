-- `choice::make_room` meets its contract: the loop's invariant is that the instances from place k on have gone up by one, and are above the new one.
-- Assumes nothing.
use Rattle.choice.proofs.Choosing.{Moved}
use Rattle.choice.proofs.make_room.Given as goal

abbrev pub invariant-loop-k : goal.invariant-loop-k
invariant-loop-k l = Moved l.t l.x l.initial.chosen l.k l.chosen
