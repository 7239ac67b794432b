-- `masks::rows::add_word` meets its contract: words are XORed byte by byte.
-- Assumes nothing.
use native.Mathlib.Omega.{arith}
use mathlib.Core.Path.{◌∙◌}
use Rattle.masks.proofs.Adding.{word-added}
use Rattle.masks.proofs.rows.add_word.Goals as goal

pub returns : goal.returns
returns c =
    c.write_u64.ensures
    ∙ word-added c.args.memory.now _ _ _ _ (λ i. (c.slice_known-1.given i).fits) (omega arith) (omega arith) c.read_u64.ensures c.read_u64-2.ensures
