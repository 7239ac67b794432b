-- `evaluation::store` meets its contract. The loop's invariant: the first j bytes are the packed ones.
-- Assumes nothing.
use mathlib.Core.Path.{◌≡◌}
use Prim.Native.Nat.{ℕ, ◌<◌}
use lib.ListN.{get_or}
use Rattle.circuit.specs.Steps.{out_byte}
use Rattle.evaluation.proofs.store.Given as goal

abbrev pub invariant-loop-j : goal.invariant-loop-j
invariant-loop-j l = (i : ℕ) → i < l.j → get_or l.y i 0 ≡ out_byte l.s l.values l.outputs i
