-- `blocks::read_columns` meets its contract: eight words gathered.
-- Assumes nothing.
use Rattle.blocks.proofs.Columns.{columns-read}
use Rattle.blocks.proofs.read_columns.Goals as goal

pub returns : goal.returns
returns c =
    columns-read _ _ c.gather8.ensures c.gather8-2.ensures c.gather8-3.ensures c.gather8-4.ensures c.gather8-5.ensures c.gather8-6.ensures c.gather8-7.ensures c.gather8-8.ensures
