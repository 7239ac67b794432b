-- `verifying::proof_tree` meets its contract: the salt is the header's.
-- Assumes nothing.
use mathlib.Core.Path.{ap, ◌∙◌}
use Rattle.cover.specs.Masters.{masters_context}
use Rattle.verifying.proofs.proof_tree.Goals as goal

pub returns : goal.returns
returns c = c.masters_tree.ensures ∙ ap masters_context c.salt_in.ensures
