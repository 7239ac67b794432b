-- `planes::tapes::load_rows` meets its contract: the words are cleared, then the groups of rows are loaded.
-- Assumes nothing.
use Rattle.planes.proofs.Within.{rows-in-words}
use Rattle.planes.proofs.tapes.load_rows.Goals as goal

pub returns : goal.returns
returns c =
    let t = c in
    let x = t.args in
    rows-in-words x.l x.n x.len _ _ x.memory.now _ _ t.tape_at-to.ensures c.rows_at-a.ensures t.clear_tapes.ensures c.load_groups.ensures
