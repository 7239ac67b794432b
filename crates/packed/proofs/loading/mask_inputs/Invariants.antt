-- `packed::loading::mask_inputs` meets its contract. The loop's invariant: the first w bits are put.
-- Assumes nothing.
use mathlib.Core.Path.{◌≡◌}
use Rattle.bits.specs.Bits.{pack}
use Rattle.walk.proofs.Turns.{firsts}
use Rattle.packed.specs.Steps.{masked_bit}
use Rattle.packed.proofs.loading.mask_inputs.Given as goal

abbrev pub invariant-loop-w : goal.invariant-loop-w
invariant-loop-w l = l.masked ≡ pack (firsts l.count (masked_bit l.l l.witness l.memory) l.w)
