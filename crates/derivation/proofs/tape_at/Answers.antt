-- `derivation::tape_at` meets its contract.
-- Assumes nothing.
use mathlib.Core.Path.{◌≡◌, ap, ap₂, ◌∙◌}
use mathlib.Core.List.{List}
use Prim.Native.Nat.{ℕ}
use lib.ListN.{length}
use lib.Seq.{sets}
use Rattle.four_sponges.proofs.Rows.{part-size, put-part}
use Rattle.party.specs.Derive.{tape_row}
use Rattle.derivation.proofs.tape_at.Goals as goal

pub returns : goal.returns
returns c =
    let x = c.args in
    let fit = c.requires.1 in
    let z = c.tape.new.row in
    let part = part-size x.to x.len x.memory.now fit in
    let size : length z ≡ x.len = c.tape.auto.row ∙ part in
    put-part x.to x.len x.memory.now z fit size
    ∙ ap (sets x.memory.now x.to) (c.tape.ensures ∙ ap₂ (λ (s : List ℕ) (n : ℕ). tape_row x.j x.i s x.k n) c.key-own.ensures part)
