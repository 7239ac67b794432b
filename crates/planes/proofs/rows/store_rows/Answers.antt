-- `planes::rows::store_rows` meets its contract.
-- Assumes nothing.
use Rattle.planes.proofs.Turning.{rows-stored}
use Rattle.planes.proofs.rows.store_rows.Goals as goal

pub returns : goal.returns
returns c =
    let x = c.args in
    rows-stored x.l x.n x.memory.now x.len x.rows.now _ _ c.tape_at-from.ensures c.store_groups.ensures
