-- `chain::walk_chain` meets its contract. The loop's invariant: the walk from the slot in hand, with the visits that are left,
-- comes to what the walk from head comes to.
-- Assumes nothing.
use mathlib.Core.Path.{◌≡◌}
use Prim.Native.Nat.{◌-◌}
use Rattle.circuit.specs.Chain.{walk_from}
use Rattle.circuit.specs.Fields.{field, gates_of, link_of, chain_walk}
use Rattle.chain.proofs.walk_chain.Given as goal

abbrev pub invariant-loop : goal.invariant-loop
invariant-loop l =
    (l.link ≡ link_of (field l.f.width l.s) l.holder) × (walk_from (gates_of (field l.f.width l.s)) (link_of (field l.f.width l.s)) (l.f.gates - l.counter) l.holder ≡ chain_walk (field l.f.width l.s))
