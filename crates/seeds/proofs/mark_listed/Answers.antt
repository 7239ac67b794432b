-- `seeds::mark_listed` meets its contract: the marks by a table of the listed leaves.
-- Assumes nothing.
use Rattle.seeds.proofs.Leaves.{marks-listed}
use mathlib.Core.Path.{◌∙◌}
use Rattle.seeds.proofs.mark_listed.Goals as goal

pub returns : goal.returns
returns c = let x = c.args in c.mark.ensures ∙ marks-listed x.list.now x.h x.m 512 c.list_leaves.new.table c.requires.0 c.list_leaves.ensures
