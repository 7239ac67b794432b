-- `evaluation::load` meets its contract. The loop's invariant: the first k wires are loaded.
-- Assumes nothing.
use mathlib.Core.Path.{◌≡◌}
use Rattle.circuit.specs.Steps.{loaded}
use Rattle.evaluation.proofs.load.Given as goal

abbrev pub invariant-loop-k : goal.invariant-loop-k
invariant-loop-k l = l.values ≡ loaded l.witness l.k l.initial.values
