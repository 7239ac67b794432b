-- `join::write_slots` meets its contract. The loop's invariant: the first k slots are written.
-- Assumes nothing.
use mathlib.Core.Path.{◌≡◌}
use Prim.Native.Nat.{◌*◌}
use lib.ListN.{length}
use Rattle.join.specs.Steps.{slots_at, joined_fields, placed}
use Rattle.join.proofs.write_slots.Given as goal

abbrev pub invariant-loop-k : goal.invariant-loop-k
invariant-loop-k l = (length l.out ≡ length l.initial.out) × (l.out ≡ placed (joined_fields l.first l.second) (slots_at l.y l.z) (4 * l.k) l.initial.out)
