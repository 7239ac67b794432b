-- `permutation::iota` meets its contract: it computes ι on lanes.
-- Assumes nothing.
use borrow.Author.Rules.{rules}
use lib.ListN.{get_or}
use mir.Syntax.{w64}
use mir.Val.{Fits}
use Rattle.permutation.proofs.Lanes.{iota-lanes}
use Rattle.permutation.proofs.iota.Goals as goal

pub returns : goal.returns
returns c =
    let s = c.args in
    iota-lanes s.a (λ k. let h : Fits w64 (get_or s.a k 0) = search rules in h.fits) (search rules) c.round_constant.result s.ir c.round_constant.ensures
