-- `seeds::tree_size` meets its contract: a case for each test.
-- Assumes nothing.
use borrow.Author.Tests.{le-leb, lt-leb}
use Rattle.seeds.specs.Operations.{is_tree_size}
use Rattle.seeds.proofs.tree_size.Goals as goal

pub returns-then-m-ge2 : goal.returns-then-m-ge2
unfolding is_tree_size
returns-then-m-ge2 c = rw (le-leb 2 c.args.m c.if-m-ge2.true)

pub returns-else-m-ge2 : goal.returns-else-m-ge2
unfolding is_tree_size
returns-else-m-ge2 c = rw (lt-leb 2 c.args.m c.if-m-ge2.false)
