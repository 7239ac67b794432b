-- `party::commit_row` meets its contract: the parts that are hashed are the commitment's input.
-- Assumes nothing.
use Rattle.bits.specs.Bytes.{le_bytes}
use Rattle.party.proofs.Commitments.{own-all, own-none, commitment-is}
use Rattle.party.proofs.commit_row.Goals as goal
use Rattle.party.proofs.commit_row.Goals.{then-i-n, else-i-n}

pub returns : goal.returns
unfolding le_bytes
returns c =
    let x = c.args in
    let own = c.if-i-n.own in
    commitment-is x.j x.n x.i x.row.now x.corrections.now c.commit.result own
    (elim c.if-i-n.branch [
      | then-i-n a ↦ own-all x.n x.i x.corrections.now own a.if-i-n.true a.own-is
      | else-i-n a ↦ own-none x.n x.i x.corrections.now own a.if-i-n.false a.own-is
    ])
    c.commit.ensures
