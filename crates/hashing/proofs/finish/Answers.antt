-- `hashing::finish` meets its contract: padding, then 32 bytes.
-- Assumes nothing.
use Rattle.keccak.specs.Steps.{padded, squeezes}
use Rattle.hashing.specs.Digest.{given}
use native.Mathlib.Omega.{arith}
use mathlib.Core.Path.{ap, ◌∙◌}
use Rattle.hashing.proofs.finish.Goals as goal

pub squeeze-requires : goal.squeeze-requires
unfolding padded
squeeze-requires c = rw c.pad.ensures (omega arith)

pub returns : goal.returns
unfolding given
returns c = c.squeeze.ensures.bytes ∙ ap (squeezes 136 32) c.pad.ensures
