-- `four::permute4` meets its contract. The invariant: the states are those after ir rounds.
-- Assumes nothing.
use mathlib.Core.Path.{◌≡◌}
use Rattle.permutation.specs.Permutation.{rounds, lanes, lane_array}
use Rattle.four.specs.Steps.{each}
use Rattle.four.proofs.permute4.Given as goal

abbrev pub invariant-loop-ir : goal.invariant-loop-ir
invariant-loop-ir l = l.s ≡ each (λ a. lanes (rounds l.ir (lane_array a))) l.initial.s
