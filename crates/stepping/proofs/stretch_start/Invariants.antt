-- `stepping::stretch_start` meets its contract: the loop's invariant is that `at` is where the stretch of instance i starts.
-- Assumes nothing.
use mathlib.Core.Path.{◌≡◌}
use Prim.Native.Nat.{◌+◌, ◌*◌, ◌≤◌}
use Rattle.circuit.specs.File.{circuit_of}
use Rattle.proof.specs.File.{stretch_start}
use Rattle.proof.specs.Steps.{asks_in}
use Rattle.proof.proofs.Sizes.{max_stretch}
use Rattle.stepping.proofs.stretch_start.Given as goal

abbrev pub invariant-loop-i : goal.invariant-loop-i
invariant-loop-i l =
    (l.at ≤ 16454 + max_stretch * l.i) × (l.at ≡ stretch_start (circuit_of l.s) l.k.instances l.k.parties (asks_in l.k.parties l.table) l.i)
