-- `permutation::theta` meets its contract: it computes θ on lanes. Each index is below 25.
-- Assumes nothing.
use borrow.Author.Rules.{rules}
use lib.ListN.{get_or}
use mir.Syntax.{w64}
use mir.Val.{Fits}
use Rattle.permutation.proofs.Lanes.{theta-lanes}
use Rattle.permutation.proofs.theta.Goals as goal

pub returns : goal.returns
returns c =
    theta-lanes c.args.a (λ k. let h : Fits w64 (get_or c.args.a k 0) = search rules in h.fits)
