-- `correcting::loading::load_masks` meets its contract. The loop's invariant: w wires are loaded.
-- Assumes nothing.
use mathlib.Core.Path.{◌≡◌}
use Rattle.correcting.specs.Steps.{masks_loaded}
use Rattle.correcting.proofs.loading.load_masks.Given as goal

abbrev pub invariant-loop-w : goal.invariant-loop-w
invariant-loop-w l = l.memory ≡ masks_loaded l.l l.w l.values l.initial.memory
