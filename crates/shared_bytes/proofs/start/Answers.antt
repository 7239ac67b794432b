-- `shared_bytes::start` meets its contract.
-- Assumes nothing.
use Rattle.shared_bytes.proofs.Operations.{start-done}
use Rattle.shared_bytes.proofs.start.Goals as goal

pub returns : goal.returns
returns c = start-done _ _ c.start.ensures c.encode.ensures
