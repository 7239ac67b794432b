-- `planes::rows::store_block` meets its contract.
-- Assumes nothing.
use Rattle.planes.proofs.Within.{block_out}
use Rattle.planes.proofs.rows.store_block.Goals as goal

pub returns : goal.returns
returns c =
    let x = c.args in
    block_out x.l x.n x.g x.len _ _ x.memory.now _ c.tape_at-from.ensures c.rows_at-a.ensures c.store_within.ensures
