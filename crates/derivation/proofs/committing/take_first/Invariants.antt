-- `derivation::committing::take_first` meets its contract. The loop's invariant: the commitments of the first i parties are taken in.
-- Assumes nothing.
use mathlib.Core.Path.{◌≡◌}
use mathlib.Core.List.{[], flatten}
use Prim.Native.Nat.{◌-◌, ◌≤◌}
use Rattle.bits.specs.Bits.{tabulate}
use Rattle.hashing.specs.Inputs.{commitments_input}
use Rattle.hashing.specs.Digest.{taken}
use Rattle.derivation.specs.Steps.{commitment_but}
use Rattle.derivation.proofs.committing.take_first.Given as goal

abbrev pub invariant-loop-i : goal.invariant-loop-i
invariant-loop-i l =
    (l.i ≤ l.last) × (l.s ≡ taken (commitments_input l.j.number (flatten (tabulate l.i (commitment_but l.j l.n l.p l.theirs l.seeds [])))))

abbrev pub decreases-loop-i : goal.decreases-loop-i
decreases-loop-i l = l.last - l.i
