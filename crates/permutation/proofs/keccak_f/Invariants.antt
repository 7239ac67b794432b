-- `permutation::keccak_f` meets its contract. The loop's invariant: the lanes are those after ir rounds.
-- Assumes nothing.
use mathlib.Core.Path.{◌≡◌}
use Rattle.permutation.specs.Permutation.{rounds, lanes, lane_array}
use Rattle.permutation.proofs.keccak_f.Given as goal

abbrev pub invariant-loop-ir : goal.invariant-loop-ir
invariant-loop-ir l = l.s ≡ lanes (rounds l.ir (lane_array l.initial.s))
