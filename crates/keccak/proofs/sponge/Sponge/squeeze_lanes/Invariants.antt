-- `keccak::sponge::Sponge::squeeze_lanes` meets its contract: the loop's invariant: halfway through giving out, at a lane's start.
-- Assumes nothing.
use Prim.Native.Nat.{◌*◌, ◌%◌}
use Rattle.keccak.proofs.Steps.{Halfway}
use mathlib.Core.Path.{◌≡◌}
use Rattle.keccak.proofs.sponge.Sponge.squeeze_lanes.Given as goal

abbrev pub invariant-loop-j : goal.invariant-loop-j
invariant-loop-j l =
    Halfway l.rate (record { lanes = l.initial.l; fill = l.initial.from }) l.initial.out l.out (record { lanes = l.l; fill = l.from }) (8 * l.j) × (l.from % 8 ≡ 0)
