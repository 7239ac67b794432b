-- `rounds::first` meets its contract. The loop's invariant: the h_i below j are taken in, and the h'_i below j are written.
-- Assumes nothing.
use mathlib.Core.Path.{◌≡◌}
use mathlib.Core.List.{flatten}
use Prim.Native.Nat.{◌*◌}
use lib.ListN.{length, take}
use Rattle.bits.specs.Bits.{tabulate}
use Rattle.circuit.specs.File.{circuit_of}
use Rattle.hashing.specs.Inputs.{all_commitments_input}
use Rattle.hashing.specs.Digest.{taken}
use Rattle.proof.specs.Steps.{master_in}
use Rattle.rounds.proofs.Firsts.{commitments_at, online_at}
use Rattle.rounds.proofs.first.Given as goal

abbrev pub invariant-loop-i : goal.invariant-loop-i
invariant-loop-i l =
    (length l.onlines ≡ length l.initial.onlines) × ((length l.memory ≡ length l.initial.memory) × ((l.all ≡ taken (all_commitments_input (flatten (tabulate l.i (commitments_at (circuit_of l.s) l.n l.salt l.witness (master_in l.nodes)))))) × (take (l.i * 32) l.onlines ≡ flatten (tabulate l.i (online_at (circuit_of l.s) l.n l.salt l.witness (master_in l.nodes))))))
