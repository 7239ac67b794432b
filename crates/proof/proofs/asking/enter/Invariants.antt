use mathlib.Core.Path.{◌≡◌}
use Prim.Native.Nat.{◌*◌, ◌≤◌}
use lib.ListN.{length, drop}
use Rattle.proof.specs.Steps.{table_of}
use Rattle.proof.proofs.asking.enter.Given as goal

abbrev pub invariant-loop-k : goal.invariant-loop-k
invariant-loop-k l = (3 * l.k ≤ length l.choices) × ((length l.table ≡ length l.initial.table) × (l.table ≡ table_of (length l.initial.table) l.n (drop (3 * l.k) l.choices)))
