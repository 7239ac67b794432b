-- `legality::good_records` meets its contract. The loop's invariant: what is gathered is the test of the first k slots.
-- Assumes nothing.
use mathlib.Core.Path.{◌≡◌}
use Rattle.circuit.specs.Fields.{field, good_records}
use Rattle.legality.proofs.good_records.Given as goal

abbrev pub invariant-loop-k : goal.invariant-loop-k
invariant-loop-k l = l.good ≡ good_records (field l.f.width l.s) l.k
