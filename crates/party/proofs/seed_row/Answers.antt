-- `party::seed_row` meets its contract.
-- Assumes nothing.
use native.Mathlib.Omega.{arith}
use mathlib.Core.Path.{ap₂, ◌∙◌}
use borrow.Author.Rules.{rules}
use lib.ListN.{get_or}
use mir.Syntax.{w8}
use mir.Val.{Fits}
use Rattle.hashing.specs.Inputs.{leaf_input}
use Rattle.keccak.specs.Steps.{closed, squeezes}
use Rattle.party.specs.Derive.{seed_row}
use Rattle.party.proofs.Derived.{row-bytes}
use Rattle.party.proofs.seed_row.Goals as goal

pub squeeze-requires : goal.squeeze-requires
unfolding closed
squeeze-requires c = rw c.close_row-s.ensures (omega arith)

pub returns : goal.returns
unfolding seed_row leaf_input
returns c =
    let o = c in
    let x = o.args in
    c.squeeze.ensures.bytes ∙ ap₂ (squeezes 168) o.requires c.close_row-s.ensures
    ∙ row-bytes 3 x.j x.i x.leaf.now 32 (omega arith) (λ k. let h : Fits w8 (get_or x.j.salt k 0) = search rules in h.fits)
    (λ k. (c.shared_slice_known-1.given k).fits)
