-- `stepping::start_digests` meets its contract.
-- Assumes nothing.
use Rattle.stepping.proofs.Stepped.{started-both}
use Rattle.stepping.proofs.start_digests.Goals as goal

pub start_all_commitments-requires : goal.start_all_commitments-requires
start_all_commitments-requires c = tt

pub start_all_online-requires : goal.start_all_online-requires
start_all_online-requires c = tt

pub returns : goal.returns
returns c = started-both _ _ c.start_all_commitments.ensures c.start_all_online.ensures
