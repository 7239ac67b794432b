-- `choice::choose_with` meets its contract: the draws, then the parties by the bytes after them.
-- Assumes nothing.
use mathlib.Core.Path.{◌∙◌}
use lib.ListN.{length}
use Rattle.keccak.specs.Steps.{squeezes}
use Rattle.keccak.proofs.Steps.{squeezes-length}
use Rattle.choice.proofs.Choosing.{chosen_is}
use Rattle.choice.proofs.choose_with.Goals as goal

pub returns : goal.returns
returns c =
    let b = c in
    let x = b.args in
    chosen_is x.m x.n (squeezes 136 (length x.bytes.now) x.sponge) c.squeeze.new.out x.chosen.now c.draw.new.chosen c.write_chosen.new.out c.squeeze.ensures.bytes
    (squeezes-length 136 (length x.bytes.now) x.sponge ∙ b.requires.1.1.1.1.0) c.draw.ensures c.write_chosen.ensures
