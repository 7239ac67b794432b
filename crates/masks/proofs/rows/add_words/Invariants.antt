-- `masks::rows::add_words` meets its contract. The loop's invariant: k words are added.
-- Assumes nothing.
use mathlib.Core.Path.{◌≡◌}
use Prim.Native.Nat.{◌*◌}
use lib.ListN.{drop}
use Rattle.masks.specs.Steps.{added}
use Rattle.masks.proofs.rows.add_words.Given as goal

abbrev pub invariant-loop-k : goal.invariant-loop-k
invariant-loop-k l = l.memory ≡ added (drop l.a l.initial.memory) l.to (8 * l.k) l.initial.memory
