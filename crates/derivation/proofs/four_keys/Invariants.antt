-- `derivation::four_keys` meets its contract. The loop's invariant: the first k keys are read.
-- Assumes nothing.
use mathlib.Core.Path.{◌≡◌}
use Prim.Native.Nat.{◌+◌, ◌*◌}
use lib.ListN.{length, take, drop}
use Rattle.four_sponges.specs.Steps.{stored}
use Rattle.derivation.proofs.four_keys.Given as goal

abbrev pub invariant-loop-k : goal.invariant-loop-k
invariant-loop-k l =
    (length l.keys ≡ 64) × (l.keys ≡ stored (λ t. take 16 (drop (l.at + t * l.step) l.memory)) 0 16 l.k l.initial.keys)
