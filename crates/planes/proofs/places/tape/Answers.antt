-- `planes::places::tape` meets its contract.
-- Assumes nothing.
use mathlib.Core.Path.{ap, ◌∙◌}
use Rattle.planes.specs.Steps.{tape}
use Rattle.bits.specs.Bytes.{le_at}
use Rattle.planes.proofs.places.tape.Goals as goal

pub returns : goal.returns
unfolding tape
returns c = c.read_u64.ensures ∙ ap (le_at 8 c.args.memory.now) c.tape_at.ensures
