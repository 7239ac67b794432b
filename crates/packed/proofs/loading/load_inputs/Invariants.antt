-- `packed::loading::load_inputs` meets its contract. The loop's invariant: w wires are loaded.
-- Assumes nothing.
use mathlib.Core.Path.{◌≡◌}
use Rattle.packed.specs.Steps.{inputs_loaded}
use Rattle.packed.proofs.loading.load_inputs.Given as goal

abbrev pub invariant-loop-w : goal.invariant-loop-w
invariant-loop-w l = l.memory ≡ inputs_loaded l.l l.w l.values l.initial.memory
