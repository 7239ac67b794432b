-- `serving::settled_both` meets its contract.
-- Assumes nothing.
use Rattle.shared.proofs.Services.{both-made}
use Rattle.serving.proofs.settled_both.Goals as goal

pub settled-requires : goal.settled-requires
settled-requires c = tt

pub settled-requires-2 : goal.settled-requires-2
settled-requires-2 c = tt

pub returns : goal.returns
returns c = both-made c.args.d _ _ c.settled.ensures c.settled-2.ensures
