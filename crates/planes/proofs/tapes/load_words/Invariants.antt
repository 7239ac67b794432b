-- `planes::tapes::load_words` meets its contract. The loops' invariants: 8 g bytes, and then k bytes, of each row are in the words.
-- Assumes nothing.
use mathlib.Core.Path.{◌≡◌}
use Prim.Native.Nat.{◌*◌}
use Rattle.planes.specs.Steps.{loaded_words}
use Rattle.planes.proofs.tapes.load_words.Given as goal

abbrev pub invariant-loop-g : goal.invariant-loop-g
invariant-loop-g l = l.memory ≡ loaded_words l.n l.fn.memory l.a l.len (8 * l.g) l.to l.fn.memory

abbrev pub invariant-loop-k : goal.invariant-loop-k
invariant-loop-k l = l.memory ≡ loaded_words l.n l.fn.memory l.a l.len l.k l.to l.fn.memory
