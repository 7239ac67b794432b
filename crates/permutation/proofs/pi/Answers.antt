-- `permutation::pi` meets its contract: it computes π on lanes. Each index is below 25.
-- Assumes nothing.
use borrow.Author.Rules.{rules}
use lib.ListN.{get_or}
use mir.Syntax.{w64}
use mir.Val.{Fits}
use Rattle.permutation.proofs.Lanes.{pi-lanes}
use Rattle.permutation.proofs.pi.Goals as goal

pub returns : goal.returns
returns c =
    pi-lanes c.args.a (λ k. let h : Fits w64 (get_or c.args.a k 0) = search rules in h.fits)
