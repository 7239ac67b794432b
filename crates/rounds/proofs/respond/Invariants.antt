-- `rounds::respond` meets its contract. The loop's invariant: the stretches from j on stand in their places, and what lies
-- before them is as it was.
-- Assumes nothing.
use mathlib.Core.Path.{◌≡◌}
use mathlib.Core.List.{◌++◌}
use lib.ListN.{length, take, drop}
use Rattle.circuit.specs.File.{circuit_of}
use Rattle.proof.specs.Steps.{asks_in, master_in}
use Rattle.rounds.proofs.Responds.{sent}
use Rattle.rounds.proofs.respond.Given as goal

abbrev pub invariant-loop-j : goal.invariant-loop-j
invariant-loop-j l =
    (length l.part ≡ length l.initial.part) × ((length l.memory ≡ length l.initial.memory) × ((l.end ≡ length (sent (circuit_of l.s) l.n l.salt l.witness (master_in l.nodes) (asks_in l.n l.table) (take l.opened l.initial.part) l.j)) × (l.part ≡ take l.end l.initial.part ++ drop l.end (sent (circuit_of l.s) l.n l.salt l.witness (master_in l.nodes) (asks_in l.n l.table) (take l.opened l.initial.part) l.m))))
