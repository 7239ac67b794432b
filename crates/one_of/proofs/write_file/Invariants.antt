-- `one_of::write_file` meets its contract. The loop's invariant: the header, the output and the first k slots are written.
-- Assumes nothing.
use Rattle.one_of.proofs.Written.{Slots}
use Rattle.one_of.proofs.write_file.Given as goal

abbrev pub invariant-loop-k : goal.invariant-loop-k
invariant-loop-k l = Slots l.s l.list l.initial.out l.out l.k
