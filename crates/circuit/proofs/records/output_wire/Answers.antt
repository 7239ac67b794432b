-- `circuit::records::output_wire` meets its contract.
-- Assumes nothing.
use Rattle.circuit.proofs.Slots.{width-known}
use Rattle.circuit.proofs.records.output_wire.Goals as goal

pub field-requires : goal.field-requires
field-requires c = (width-known, c.requires)
