-- `planes::tapes::load_block` meets its contract. The invariant: b bytes of each row are loaded.
-- Assumes nothing.
use mathlib.Core.Path.{◌≡◌}
use Prim.Native.Nat.{◌+◌, ◌*◌}
use Rattle.planes.specs.Steps.{loaded_words}
use Rattle.planes.proofs.tapes.load_block.Given as goal

abbrev pub invariant-loop-b : goal.invariant-loop-b
invariant-loop-b l = l.memory ≡ loaded_words l.n l.initial.memory (l.a + l.k) l.len l.b (l.to + 64 * l.k) l.initial.memory
