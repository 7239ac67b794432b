-- `verifying::recompute` meets its contract. The loop's invariant: the stretch of instance j is next, the outputs of those before it are
-- tested, and their digests taken in.
-- Assumes nothing.
use mathlib.Core.Path.{◌≡◌}
use mathlib.Core.List.{flatten}
use lib.ListN.{length}
use Rattle.bits.specs.Bits.{tabulate}
use Rattle.circuit.specs.File.{circuit_of}
use Rattle.hashing.specs.Inputs.{all_commitments_input, all_online_input}
use Rattle.hashing.specs.Digest.{taken}
use Rattle.proof.specs.Steps.{asks_in}
use Rattle.proof.specs.File.{stretch_start}
use Rattle.proof.specs.Check.{every}
use Rattle.proof_tests.specs.Steps.{output_at, commitments_at, online_at}
use Rattle.verifying.proofs.recompute.Given as goal

abbrev pub invariant-loop-j : goal.invariant-loop-j
invariant-loop-j l =
    (l.at ≡ stretch_start (circuit_of l.s) l.m l.n (asks_in l.n l.table) l.j)
    × ((length l.memory ≡ length l.initial.memory)
    × ((l.agrees ≡ every l.j (output_at (circuit_of l.s) l.m l.n (asks_in l.n l.table) l.proof l.y))
    × ((l.all ≡ taken (all_commitments_input (flatten (tabulate l.j (commitments_at (circuit_of l.s) l.m l.n (asks_in l.n l.table) l.proof)))))
    × (l.online ≡ taken (all_online_input (flatten (tabulate l.j (online_at (circuit_of l.s) l.m l.n (asks_in l.n l.table) l.proof))))))))
