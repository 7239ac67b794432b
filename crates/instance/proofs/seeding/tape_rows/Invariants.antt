-- `instance::seeding::tape_rows` meets its contract. The loop's invariant: the first i rows are written.
-- Assumes nothing.
use mathlib.Core.Path.{◌≡◌}
use mathlib.Core.List.{flatten}
use Prim.Native.Nat.{◌-◌, ◌*◌, ◌≤◌}
use lib.ListN.{length, take, drop}
use lib.Seq.{sets}
use Rattle.bits.specs.Bits.{tabulate}
use Rattle.circuit.specs.File.{circuit_of}
use Rattle.instance.specs.Steps.{tape_but}
use Rattle.instance.proofs.seeding.tape_rows.Given as goal

abbrev pub invariant-loop-i : goal.invariant-loop-i
invariant-loop-i l =
    (l.i ≤ l.n) × ((length l.memory ≡ length l.initial.memory) × (l.memory ≡ sets l.initial.memory l.to (flatten (tabulate l.i (tape_but (circuit_of l.s) l.n l.p l.inst.context (take (32 * l.n) (drop l.seeds l.initial.memory)))))))

abbrev pub decreases-loop-i : goal.decreases-loop-i
decreases-loop-i l = l.n - l.i
