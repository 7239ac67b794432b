-- `reading::read` meets its contract: it reads the form in use.
-- Assumes nothing.
use native.Mathlib.Omega.{arith}
use Rattle.circuit.specs.Operations.{read_op}
use Rattle.circuit.proofs.Slots.{width-known}
use Rattle.reading.proofs.read.Goals as goal

pub read_with-requires : goal.read_with-requires
read_with-requires c = (width-known, omega arith)

pub returns : goal.returns
unfolding read_op
returns c = c.read_with.ensures
