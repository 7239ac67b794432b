-- `tree::children` meets its contract: the head is j and k, after the tag and the salt.
-- Assumes nothing.
use Rattle.tree.specs.Tree.{children}
use Rattle.hashing.specs.Inputs.{node_input}
use Rattle.bits.specs.Bytes.{le_bytes}
use Rattle.keccak.specs.Sponge.{shake128}
use mathlib.Core.Path.{ap, ◌∙◌}
use Rattle.tree.proofs.children.Goals as goal

pub returns : goal.returns
unfolding children node_input le_bytes
returns c = c.shake128.ensures ∙ ap (shake128 _) c.requires
