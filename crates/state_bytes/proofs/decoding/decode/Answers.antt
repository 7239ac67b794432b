-- `state_bytes::decoding::decode` meets its contract.
-- Assumes nothing.
use mathlib.Core.Path.{refl}
use Rattle.state_bytes.proofs.Filled.{state-read}
use Rattle.state_bytes.proofs.decoding.decode.Goals as goal

pub returns : goal.returns
returns c = state-read _ _ _ _ refl c.read_flags-waiting.ensures c.read_jobs-jobs.ensures
