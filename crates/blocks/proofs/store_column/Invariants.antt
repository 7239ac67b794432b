-- `blocks::store_column` meets its contract. The invariant: i bytes are stored.
-- Assumes nothing.
use mathlib.Core.Path.{◌≡◌}
use Rattle.blocks.specs.Steps.{stored_column}
use Rattle.blocks.proofs.store_column.Given as goal

abbrev pub invariant-loop-i : goal.invariant-loop-i
invariant-loop-i l = l.memory ≡ stored_column l.i l.w l.b l.j l.step l.initial.memory
