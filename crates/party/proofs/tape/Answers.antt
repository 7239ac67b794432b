-- `party::tape` meets its contract: the stream, then the unused bits cleared.
-- Assumes nothing.
use native.Mathlib.Omega.{arith}
use mathlib.Core.Path.{ap, ◌∙◌}
use borrow.Author.Rules.{rules}
use lib.ListN.{length, get_or}
use mir.Syntax.{w8}
use mir.Val.{Fits}
use Rattle.hashing.specs.Inputs.{tape_input}
use Rattle.keccak.specs.Steps.{closed, squeezes}
use Rattle.party.specs.Derive.{tape_row, clear_from}
use Rattle.party.proofs.Derived.{row-bytes}
use Rattle.party.proofs.tape.Goals as goal

pub squeeze-requires : goal.squeeze-requires
unfolding closed
squeeze-requires c = rw c.close_row-s.ensures (omega arith)

pub returns : goal.returns
unfolding tape_row tape_input
returns c =
    let o = c in
    let x = o.args in
    c.clear_from.ensures
    ∙ ap (clear_from x.k)
    (c.squeeze.ensures.bytes ∙ ap (squeezes 168 (length x.row.now)) c.close_row-s.ensures
    ∙ row-bytes 4 x.j x.i x.seed.now (length x.row.now) (omega arith) (λ k. let h : Fits w8 (get_or x.j.salt k 0) = search rules in h.fits)
    (λ k. (c.shared_slice_known-1.given k).fits))
