-- `correcting::loading::clear_corrections` meets its contract.
-- Assumes nothing.
use Rattle.correcting.proofs.Turns.{corrections-done}
use Rattle.correcting.proofs.loading.clear_corrections.Goals as goal

pub returns : goal.returns
returns c =
    let x = c.args in
    corrections-done x.l _ _ x.memory.now _ c.corrections_at-at.ensures c.rows_at-rows.ensures c.requires.1 c.clear.ensures
