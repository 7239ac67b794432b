-- `planes::tapes::clear_part` meets its contract.
-- Assumes nothing.
use mathlib.Core.Path.{refl, ◌∙◌}
use Rattle.bits.proofs.Copies.{part-cleared}
use Rattle.planes.proofs.Turning.{clear-part}
use Rattle.planes.proofs.tapes.clear_part.Goals as goal

pub returns : goal.returns
returns c = part-cleared _ _ _ c.args.to c.args.count c.requires refl (c.fill.ensures.after (λ y e. e)) ∙ clear-part _ _ _ c.requires
