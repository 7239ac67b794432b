-- `derivation::seed_at` meets its contract.
-- Assumes nothing.
use mathlib.Core.Path.{◌≡◌, ap, ◌∙◌}
use lib.ListN.{length}
use lib.Seq.{sets}
use Rattle.four_sponges.proofs.Rows.{part-size, put-part}
use Rattle.party.specs.Derive.{seed_row}
use Rattle.derivation.proofs.seed_at.Goals as goal

pub returns : goal.returns
returns c =
    let x = c.args in
    let fit = c.requires.1 in
    let z = c.seed_row.new.out in
    let size : length z ≡ 32 = c.seed_row.auto.out ∙ part-size x.to 32 x.memory.now fit in
    put-part x.to 32 x.memory.now z fit size
    ∙ ap (sets x.memory.now x.to) (c.seed_row.ensures ∙ ap (seed_row x.j x.i) c.key-own.ensures)
