-- `calling::serve_all`: what the services that are left make of the answer so far is what all services make of none.
-- Assumes nothing.
use mathlib.Core.Path.{◌≡◌}
use Prim.Native.Nat.{◌-◌}
use lib.ListN.{length}
use Rattle.calling.proofs.Turns.{standing, Turn}
use Rattle.calling.proofs.serve_all.Given as goal

abbrev pub invariant-loop-turn : goal.invariant-loop-turn
invariant-loop-turn l =
    (length l.work ≡ length l.initial.work) × Turn l.buffer l.quota (standing l.initial.begin l.initial.waiting l.initial.jobs) l.begin l.waiting l.jobs l.kept l.verdicts (l.quota - l.turn)
