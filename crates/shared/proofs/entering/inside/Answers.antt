-- `shared::entering::inside` meets its contract.
-- Assumes nothing.
use mathlib.Core.Path.{◌∙◌}
use borrow.Author.Tests.{lt-leb}
use Rattle.shared.proofs.Entries.{inside-beyond, inside-left}
use Rattle.shared.proofs.entering.inside.Goals as goal

pub returns-then-p-n : goal.returns-then-p-n
returns-then-p-n c = inside-left _ c.args.p c.if-p-n.true

pub returns-else-p-n : goal.returns-else-p-n
returns-else-p-n c = lt-leb _ _ c.if-p-n.false ∙ inside-beyond _ c.args.p c.if-p-n.false
