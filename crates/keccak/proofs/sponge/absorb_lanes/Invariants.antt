-- `keccak::sponge::absorb_lanes` meets its contract: the loop's invariant is that of the bytes, at a lane's start.
-- Assumes nothing.
use lib.ListN.{drop, length}
use Prim.Native.Nat.{◌%◌, ◌-◌, ◌≤◌, ◌<◌}
use Rattle.keccak.specs.Steps.{absorbs}
use mathlib.Core.Path.{◌≡◌}
use Rattle.keccak.proofs.sponge.absorb_lanes.Given as goal

abbrev pub invariant-loop-i : goal.invariant-loop-i
invariant-loop-i l =
    (l.i ≤ length l.data) × ((l.i % 8 ≡ 0) × ((l.at % 8 ≡ 0) × ((l.at < l.rate) × (absorbs l.rate (record { lanes = l.l; fill = l.at }) (drop l.i l.data) ≡ absorbs l.rate (record { lanes = l.initial.l; fill = l.fill }) l.data))))

abbrev pub decreases-loop-i : goal.decreases-loop-i
decreases-loop-i l = length l.data - l.i
