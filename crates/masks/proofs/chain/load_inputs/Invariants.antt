-- `masks::chain::load_inputs` meets its contract. The loop's invariant: k masks are loaded.
-- Assumes nothing.
use mathlib.Core.Path.{◌≡◌}
use Rattle.bits.specs.Bits.{bit_val, bit_at}
use Rattle.words.specs.Steps.{fill}
use Rattle.masks.specs.Steps.{tape_bit}
use Rattle.masks.proofs.chain.load_inputs.Given as goal

abbrev pub invariant-loop-k : goal.invariant-loop-k
invariant-loop-k l =
    l.memory ≡ fill (λ j. j) (λ j. bit_val (bit_at l.initial.memory (tape_bit l.wires j))) l.k l.initial.memory
