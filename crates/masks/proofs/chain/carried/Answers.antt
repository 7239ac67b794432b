-- `masks::chain::carried` meets its contract.
-- Assumes nothing.
use Prim.Native.Nat.{◌%◌}
use borrow.Author.Tests.{eq-eqb, ne_eqb}
use Rattle.masks.specs.Steps.{carried}
use Rattle.masks.proofs.chain.carried.Goals as goal

pub returns-then-t-eq0 : goal.returns-then-t-eq0
unfolding carried
returns-then-t-eq0 c = rw (eq-eqb (c.args.t % 8) 0 c.if-t-eq0.true)

pub returns-else-t-eq0 : goal.returns-else-t-eq0
unfolding carried
returns-else-t-eq0 c = rw (ne_eqb (c.args.t % 8) 0 c.if-t-eq0.false)
