-- `keccak::state::xor_lanes` meets its contract: the loop's invariant: what is left, XORed in from here, gives what all gives from the start.
-- Assumes nothing.
use Prim.Native.Nat.{◌+◌, ◌*◌}
use lib.ListN.{drop}
use Rattle.keccak.specs.Steps.{xor_bytes}
use mathlib.Core.Path.{◌≡◌}
use Rattle.keccak.proofs.state.xor_lanes.Given as goal

abbrev pub invariant-loop-j : goal.invariant-loop-j
invariant-loop-j l =
    xor_bytes l.l (l.k + 8 * l.j) (drop (8 * l.j) l.part) ≡ xor_bytes l.initial.l l.k l.part
