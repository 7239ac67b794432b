-- `wivulameno::wv_shared_enter` meets its contract.
-- Assumes nothing.
use mathlib.Core.Path.{ap, ◌∙◌}
use Rattle.wivulameno.specs.Interface.{status}
use Rattle.wivulameno.proofs.wv_shared_enter.Goals as goal

pub returns : goal.returns
returns c = (c.status.ensures ∙ ap status c.enter.ensures.0, c.enter.ensures.1)
