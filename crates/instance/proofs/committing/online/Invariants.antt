-- `instance::committing::online` meets its contract. The loop's invariant: the rows of the groups before g are taken in, and the planes
-- are as they were.
-- Assumes nothing.
use mathlib.Core.Path.{◌≡◌}
use mathlib.Core.List.{flatten}
use Prim.Native.Nat.{ℕ, ◌-◌, ◌*◌, ◌<◌}
use lib.ListN.{length, get_or}
use Rattle.bits.specs.Bits.{tabulate}
use Rattle.hashing.specs.Inputs.{online_input}
use Rattle.hashing.specs.Digest.{taken}
use Rattle.instance.proofs.Online.{sent_row, Same}
use Rattle.instance.proofs.committing.online.Given as goal

abbrev pub invariant-loop-g : goal.invariant-loop-g
invariant-loop-g l =
    (length l.memory ≡ length l.initial.memory)
    × (((k : ℕ) → get_or l.memory k 0 < 256)
    × (Same l.l l.len l.initial.memory l.memory × (l.s ≡ taken (online_input l.j l.masked (flatten (tabulate (l.n - (l.n - 8 * l.g)) (sent_row l.l l.len l.initial.memory)))))))
