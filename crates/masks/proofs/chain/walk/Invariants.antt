-- `masks::chain::walk` meets its contract. The loop's invariant: the gates that are left, from the memory so far, give what all of them give;
-- the byte at hand has the corrections of the last byte that is begun.
-- Assumes nothing.
use mathlib.Core.Path.{◌≡◌}
use mathlib.Core.Bool.{true}
use Prim.Native.Nat.{◌+◌, ◌-◌, ◌≤◌}
use Rattle.bits.specs.Bits.{oct}
use Rattle.circuit.specs.Circuit.{ands}
use Rattle.circuit.specs.Steps.{gates_from, walks, wired}
use Rattle.masks.proofs.Begun.{Begun}
use Rattle.masks.proofs.Turns.{joint}
use Rattle.masks.proofs.chain.walk.Given as goal

abbrev pub invariant-loop : goal.invariant-loop
invariant-loop l = record {
  low : l.t ≤ l.counter;
  count : l.masks + (l.t + ands (gates_from l.s (l.end - l.counter) l.slot)) ≡ l.products;
  chain : walks l.s (l.end - l.counter) l.slot ≡ true;
  reads : wired l.s l.wires (l.end - l.counter) l.slot;
  begun : Begun l.at (oct (l.products - l.masks)) l.t l.byte l.memory;
  same : joint l.s l.masks l.products l.at (l.end - l.counter) l.slot l.t l.memory ≡ joint l.s l.masks l.products l.at l.end l.head 0 l.initial.memory;
}
