-- `keccak::sponge::absorb_bytes` meets its contract: the loop's invariant: what is left, taken in from here, gives what all gives from the start.
-- Assumes nothing.
use lib.ListN.{drop}
use Rattle.keccak.specs.Steps.{absorbs}
use mathlib.Core.Path.{◌≡◌}
use Prim.Native.Nat.{◌<◌}
use Rattle.keccak.proofs.sponge.absorb_bytes.Given as goal

abbrev pub invariant-loop-b : goal.invariant-loop-b
invariant-loop-b l =
    (l.at < l.rate) × (absorbs l.rate (record { lanes = l.l; fill = l.at }) (drop l.b-index l.data) ≡ absorbs l.rate (record { lanes = l.initial.l; fill = l.fill }) l.data)
