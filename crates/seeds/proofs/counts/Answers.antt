-- `seeds::counts` meets its contract: one case for each test.
-- Assumes nothing.
use borrow.Author.Tests.{le-leb, lt-leb}
use Rattle.seeds.specs.Operations.{are_counts}
use Rattle.seeds.proofs.counts.Goals as goal

pub returns-then-tau-ge1 : goal.returns-then-tau-ge1
unfolding are_counts
returns-then-tau-ge1 c = let x = c.args in rw (le-leb 2 x.m c.if-m-ge2.true, le-leb x.m 512 c.if-m-le-MAX_INSTANCES.true, le-leb 1 x.tau c.if-tau-ge1.true)

pub returns-else-tau-ge1 : goal.returns-else-tau-ge1
unfolding are_counts
returns-else-tau-ge1 c = let x = c.args in rw (le-leb 2 x.m c.if-m-ge2.true, le-leb x.m 512 c.if-m-le-MAX_INSTANCES.true, lt-leb 1 x.tau c.if-tau-ge1.false)

pub returns-else-m-le-MAX_INSTANCES : goal.returns-else-m-le-MAX_INSTANCES
unfolding are_counts
returns-else-m-le-MAX_INSTANCES c = let x = c.args in rw (le-leb 2 x.m c.if-m-ge2.true, lt-leb x.m 512 c.if-m-le-MAX_INSTANCES.false)

pub returns-else-m-ge2 : goal.returns-else-m-ge2
unfolding are_counts
returns-else-m-ge2 c = let x = c.args in rw (lt-leb 2 x.m c.if-m-ge2.false)
