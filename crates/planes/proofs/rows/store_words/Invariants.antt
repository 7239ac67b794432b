-- `planes::rows::store_words` meets its contract. The loops' invariants: 8 g bytes, and then k bytes, of each row are stored.
-- Assumes nothing.
use mathlib.Core.Path.{◌≡◌}
use Prim.Native.Nat.{◌*◌}
use Rattle.planes.specs.Steps.{stored_words}
use Rattle.planes.proofs.rows.store_words.Given as goal

abbrev pub invariant-loop-g : goal.invariant-loop-g
invariant-loop-g l = l.rows ≡ stored_words l.n l.memory l.from (8 * l.g) l.a l.len l.fn.rows

abbrev pub invariant-loop-k : goal.invariant-loop-k
invariant-loop-k l = l.rows ≡ stored_words l.n l.memory l.from l.k l.a l.len l.fn.rows
