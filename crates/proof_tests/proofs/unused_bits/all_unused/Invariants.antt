-- `proof_tests::unused_bits::all_unused` meets its contract. The loop's invariant: the stretch of instance j is next, and the tests of those before it are made.
-- Assumes nothing.
use mathlib.Core.Path.{◌≡◌}
use Rattle.circuit.specs.File.{circuit_of}
use Rattle.proof.specs.Steps.{asks_in}
use Rattle.proof.specs.File.{stretch_start}
use Rattle.proof.specs.Check.{every}
use Rattle.proof_tests.proofs.Verified.{unused_at}
use Rattle.proof_tests.proofs.unused_bits.all_unused.Given as goal

abbrev pub invariant-loop-j : goal.invariant-loop-j
invariant-loop-j l =
    (l.at ≡ stretch_start (circuit_of l.s) l.m l.n (asks_in l.n l.table) l.j) × (l.good ≡ every l.j (unused_at (circuit_of l.s) l.m l.n (asks_in l.n l.table) l.proof))
