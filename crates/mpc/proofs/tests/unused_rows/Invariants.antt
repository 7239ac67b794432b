-- `mpc::tests::unused_rows` meets its contract. The loop's invariant: `good` tells of the first i rows.
-- Assumes nothing.
use mathlib.Core.Path.{◌≡◌}
use Rattle.circuit.specs.File.{circuit_of}
use Rattle.plain.specs.Tapes.{unused_rows}
use Rattle.mpc.proofs.tests.unused_rows.Given as goal

abbrev pub invariant-loop-i : goal.invariant-loop-i
invariant-loop-i l = l.good ≡ unused_rows (circuit_of l.s) l.n l.tapes l.i
