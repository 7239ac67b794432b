-- `shared::entering::part` meets its contract.
-- Assumes nothing.
use native.Mathlib.Omega.{arith}
use Rattle.shared.proofs.Entries.{part-is}
use Rattle.shared.proofs.entering.part.Goals as goal

pub overflow_add-result : goal.overflow_add-result
overflow_add-result c = omega (arith, c.requires, c.well_formed.0.0)

pub slice_bounds-result-end : goal.slice_bounds-result-end
slice_bounds-result-end c = c.requires

pub returns : goal.returns
returns c = part-is c.args.buffer.now c.args.p
