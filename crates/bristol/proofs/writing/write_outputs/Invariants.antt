-- `bristol::writing::write_outputs` meets its contract. The loop's invariant: the numbers of the first wires are written.
-- Assumes nothing.
use Rattle.bristol.proofs.Stores.{Outputs}
use Rattle.bristol.proofs.writing.write_outputs.Given as goal

abbrev pub invariant-loop-j : goal.invariant-loop-j
invariant-loop-j l = Outputs l.initial.out l.fn.z.outputs l.first l.out l.j
