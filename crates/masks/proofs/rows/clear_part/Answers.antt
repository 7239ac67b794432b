-- `masks::rows::clear_part` meets its contract.
-- Assumes nothing.
use mathlib.Core.Path.{refl, ◌∙◌}
use Rattle.bits.proofs.Copies.{part-cleared}
use Rattle.masks.proofs.Sums.{clear-part}
use Rattle.masks.proofs.rows.clear_part.Goals as goal

pub returns : goal.returns
returns c = part-cleared _ _ _ c.args.to c.args.len c.requires refl (c.fill.ensures.after (λ y e. e)) ∙ clear-part _ _ _ c.requires
