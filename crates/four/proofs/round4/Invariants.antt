-- `four::round4` meets its contract. The invariant: the round is done on the first k states.
-- Assumes nothing.
use mathlib.Core.Path.{◌≡◌}
use mathlib.Core.List.{List}
use Prim.Native.Nat.{ℕ}
use Rattle.permutation.specs.Permutation.{Rnd, lanes, lane_array}
use Rattle.four.proofs.States.{each_below}
use Rattle.four.proofs.round4.Given as goal

-- the round ir on the lanes of a state
abbrev pub rnd : ℕ → List ℕ → List ℕ
rnd ir a = lanes (Rnd (lane_array a) ir)

abbrev pub invariant-loop-k : goal.invariant-loop-k
invariant-loop-k l = l.s ≡ each_below (rnd l.ir) l.k l.initial.s
