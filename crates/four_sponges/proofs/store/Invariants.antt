-- `four_sponges::store` meets its contract. The loop's invariant: the bytes of the first k states are in their rows.
-- Assumes nothing.
use mathlib.Core.Path.{◌≡◌}
use Prim.Native.Nat.{◌*◌}
use lib.ListN.{length}
use Rattle.keccak.specs.Steps.{squeezes}
use Rattle.four.specs.Steps.{state_of}
use Rattle.four_sponges.specs.Steps.{opened, stored}
use Rattle.four_sponges.proofs.store.Given as goal

abbrev pub invariant-loop-k : goal.invariant-loop-k
invariant-loop-k l =
    (length l.rows ≡ 4 * l.len) × (l.rows ≡ stored (λ i. squeezes l.rate l.m (opened (state_of i l.s))) l.at l.len l.k l.initial.rows)
