-- `circuit::records::record` meets its contract.
-- Assumes nothing.
use Rattle.circuit.proofs.records.record.Goals as goal

pub record_with-requires : goal.record_with-requires
record_with-requires c = c.requires
