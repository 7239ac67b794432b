-- `evaluation::walk` meets its contract. The loop's invariant: the gates that are left, from the values so far, give what all of them give.
-- Assumes nothing.
use mathlib.Core.Bool.{true}
use mathlib.Core.Path.{◌≡◌}
use Prim.Native.Nat.{◌-◌}
use Rattle.circuit.specs.Steps.{max_wires, walks, walked, wired}
use Rattle.evaluation.proofs.walk.Given as goal

abbrev pub invariant-loop : goal.invariant-loop
invariant-loop l =
    (walks l.s (l.gates - l.counter) l.slot ≡ true) × (wired l.s max_wires (l.gates - l.counter) l.slot × (walked l.s (l.gates - l.counter) l.slot l.values ≡ walked l.s l.gates l.head l.initial.values))
