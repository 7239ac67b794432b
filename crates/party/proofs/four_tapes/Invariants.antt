-- `party::four_tapes` meets its contract: the streams, then the unused bits of each row cleared.
-- The loop's invariant: the first k rows are cleared.
-- Assumes nothing.
use mathlib.Core.Path.{◌≡◌}
use Prim.Native.Nat.{◌*◌}
use lib.ListN.{length}
use Rattle.four_sponges.specs.Steps.{stored}
use Rattle.party.proofs.Cleared.{cleared_row}
use Rattle.party.proofs.four_tapes.Given as goal

abbrev pub invariant-loop-k : goal.invariant-loop-k
invariant-loop-k l =
    (length l.rows ≡ 4 * l.len) × (l.rows ≡ stored (cleared_row l.len l.initial.rows l.used) 0 l.len l.k l.initial.rows)
