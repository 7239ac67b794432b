-- `packed::loading::clear_words` meets its contract. The loop's invariant: t words are cleared.
-- Assumes nothing.
use mathlib.Core.Path.{◌≡◌}
use Rattle.packed.specs.Steps.{words_cleared}
use Rattle.packed.proofs.loading.clear_words.Given as goal

abbrev pub invariant-loop-t : goal.invariant-loop-t
invariant-loop-t l = l.memory ≡ words_cleared l.l l.q l.t l.initial.memory
