-- `four_sponges::squeeze4` meets its contract. The loop's invariant: `at` bytes of each row are given.
-- Assumes nothing.
use borrow.Author.Rules.{rules}
use native.Mathlib.Omega.{arith}
use Prim.Native.Nat.{◌/◌}
use lib.ListN.{length, get_or}
use mir.Syntax.{w64}
use mir.Val.{Fits}
use Rattle.four_sponges.proofs.Blocks.{halfway-start, halfway-more}
use Rattle.four_sponges.proofs.squeeze4.Goals as goal

pub loop-at-init : goal.loop-at-init
loop-at-init c =
    let x = c.args in
    halfway-start x.rate (length x.rows.now / 4) c.requires.0 x.lanes x.rows.now (search rules)
    (λ k. let h : Fits w64 (get_or x.lanes k 0) = search rules in h.fits) (omega arith)

pub loop-at-preserved : goal.loop-at-preserved
loop-at-preserved c =
    let o = c in
    let x = o.args in
    let l = c.loop-at in
    halfway-more x.rate (length x.rows.now / 4) o.requires.0 x.lanes x.rows.now l.s l.rows l.at _ _ _ l.invariant
    c.loop-at-test.true (omega arith)
    c.min-m.ensures c.permute4.ensures
    c.store.ensures c.store.auto.rows
