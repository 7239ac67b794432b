-- `one_of::records::onward` meets its contract.
-- Assumes nothing.
use borrow.Author.Tests.{lt-ltb, le-ltb}
use Rattle.one_of.proofs.records.onward.Goals as goal

pub returns-then-k-total : goal.returns-then-k-total
returns-then-k-total c =
    let x = c.args in
    rw (lt-ltb x.k x.total c.if-k-total.true)

pub returns : goal.returns
returns c =
    let x = c.args in
    rw (le-ltb x.k x.total c.if-k-total.false)
