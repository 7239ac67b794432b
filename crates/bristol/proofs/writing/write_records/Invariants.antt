-- `bristol::writing::write_records` meets its contract. The loop's invariant: storing the record of the gate that is held, and of those that are left, gives what storing all gives.
-- Assumes nothing.
use mathlib.Core.List.{◌∷◌}
use Prim.Native.Nat.{◌-◌}
use lib.ListN.{drop}
use Rattle.bristol_text.specs.Text.{lines}
use Rattle.bristol_lines.specs.Steps.{line_of, gates_from, stored}
use Rattle.bristol.proofs.Writes.{Held}
use Rattle.bristol.proofs.writing.write_records.Given as goal

abbrev pub invariant-loop : goal.invariant-loop
invariant-loop l = Held l.s l.z l.initial.out (stored l.z.inputs l.z.outputs (line_of l.initial.g ∷ gates_from (lines (drop l.initial.at l.s))) l.initial.out) l.out l.g (l.z.gates - l.counter) l.at
