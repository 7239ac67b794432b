-- `packed::running::pack_row` meets its contract. The loop's invariant: the first t bits are put.
-- Assumes nothing.
use mathlib.Core.Path.{◌≡◌}
use Prim.Native.Nat.{◌*◌}
use lib.ListN.{length}
use Rattle.bits.specs.Bits.{pack}
use Rattle.walk.proofs.Turns.{firsts}
use Rattle.packed.specs.Steps.{sent_bit}
use Rattle.packed.proofs.running.pack_row.Given as goal

abbrev pub invariant-loop-t : goal.invariant-loop-t
invariant-loop-t l = l.out ≡ pack (firsts (8 * length l.initial.out) (sent_bit l.l l.memory l.i) l.t)
