-- `shown_parts::cuts::ands_passed` meets its contract. The loop's invariant: the count and the AND gates up to the cut make up all of them.
-- Assumes nothing.
use mathlib.Core.Bool.{true}
use mathlib.Core.Path.{◌≡◌}
use Prim.Native.Nat.{ℕ, ◌+◌, ◌-◌, ◌≤◌}
use Rattle.circuit.specs.Circuit.{ands}
use Rattle.circuit.specs.Steps.{walks, gates_from}
use Rattle.shown_parts.proofs.cuts.ands_passed.Given as goal

abbrev pub invariant-loop : goal.invariant-loop
invariant-loop l =
    (l.count ≤ l.counter)
    × (((k : ℕ) → walks l.s (l.cut + k) l.head ≡ true → walks l.s (l.cut - l.counter + k) l.slot ≡ true)
    × (l.count + ands (gates_from l.s (l.cut - l.counter) l.slot) ≡ ands (gates_from l.s l.cut l.head)))
