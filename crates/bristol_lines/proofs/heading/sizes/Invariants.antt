-- `bristol_lines::heading::sizes` meets its contract. The loop's invariant: the sizes that are left, with the sum so far, give what all of them give.
-- Assumes nothing.
use Prim.Native.Nat.{◌-◌}
use Rattle.bristol_lines.proofs.Heads.{Summed}
use Rattle.bristol_lines.proofs.heading.sizes.Given as goal

abbrev pub invariant-loop : goal.invariant-loop
invariant-loop l = Summed l.l l.n l.end l.sum (l.n - l.counter) l.at
