-- `proof::asking::proof_bytes` meets its contract: the loop's invariant is that `at` is where the stretch of instance j starts.
-- Assumes nothing.
use mathlib.Core.Path.{◌≡◌}
use Prim.Native.Nat.{◌+◌, ◌*◌, ◌≤◌}
use Rattle.circuit.specs.File.{circuit_of}
use Rattle.proof.specs.File.{stretch_start}
use Rattle.proof.specs.Steps.{asks_in}
use Rattle.proof.proofs.Sizes.{max_stretch}
use Rattle.proof.proofs.asking.proof_bytes.Given as goal

abbrev pub invariant-loop-j : goal.invariant-loop-j
invariant-loop-j l =
    (l.at ≤ 16454 + max_stretch * l.j) × (l.at ≡ stretch_start (circuit_of l.s) l.m l.n (asks_in l.n l.table) l.j)
