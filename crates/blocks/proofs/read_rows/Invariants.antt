-- `blocks::read_rows` meets its contract. The invariant: p words are read.
-- Assumes nothing.
use mathlib.Core.Path.{◌≡◌}
use Rattle.blocks.specs.Steps.{row_words}
use Rattle.blocks.proofs.read_rows.Given as goal

abbrev pub invariant-loop-p : goal.invariant-loop-p
invariant-loop-p l = l.r ≡ row_words l.p l.s l.j l.step
