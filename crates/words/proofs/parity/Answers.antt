-- `words::parity` meets its contract: the lowest bit of the number of ones.
-- Assumes nothing.
use mathlib.Core.Path.{ap, ◌∙◌}
use lib.Count.{ones}
use Rattle.bits.specs.Bits.{bit_val}
use Rattle.bits.proofs.Numbers.{mod-two}
use Rattle.words.proofs.Folds.{ones-parity}
use Rattle.words.proofs.parity.Goals as goal

pub returns : goal.returns
returns c = mod-two (ones c.args.x) ∙ ap bit_val (ones-parity 64 c.args.x c.ranges.x.fits)
