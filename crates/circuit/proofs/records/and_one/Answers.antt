-- `circuit::records::and_one` meets its contract: in each arm the gate is that arm's.
-- Assumes nothing.
use mathlib.Core.Path.{sym, ap}
use Rattle.circuit.specs.Steps.{and_one}
use Rattle.circuit.proofs.records.and_one.Goals as goal

pub returns-in-Xor : goal.returns-in-Xor
returns-in-Xor c = sym (ap and_one c.in-Xor.is)

pub returns-in-And : goal.returns-in-And
returns-in-And c = sym (ap and_one c.in-And.is)

pub returns-in-Inv : goal.returns-in-Inv
returns-in-Inv c = sym (ap and_one c.in-Inv.is)
