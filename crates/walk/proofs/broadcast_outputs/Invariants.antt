-- `walk::broadcast_outputs` meets its contract. The loop's invariant: the first j output wires are broadcast, and their values put.
-- Assumes nothing.
use mathlib.Core.Path.{◌≡◌}
use Rattle.bits.specs.Bits.{pack}
use Rattle.walk.specs.Steps.{outputs_sent, output_bit}
use Rattle.walk.proofs.Turns.{firsts}
use Rattle.walk.proofs.broadcast_outputs.Given as goal

abbrev pub invariant-loop-j : goal.invariant-loop-j
invariant-loop-j l = record {
  sent : l.memory ≡ outputs_sent l.l l.hidden l.s l.j l.initial.memory;
  values : l.y ≡ pack (firsts l.z.outputs (output_bit l.l l.hidden l.s l.initial.memory) l.j);
}
