-- `blocks::transpose_rows` meets its contract: three exchanges.
-- Assumes nothing.
use Rattle.blocks.proofs.Exchanges.{three-exchanges}
use borrow.Author.Rules.{rules}
use lib.ListN.{get_or}
use mir.Syntax.{w64}
use mir.Val.{Fits}
use Rattle.blocks.proofs.transpose_rows.Goals as goal

pub returns : goal.returns
returns c =
    three-exchanges c.args.r _ _ _ (search rules) (λ k. let h : Fits w64 (get_or c.exchange.result k 0) = search rules in h.fits)
    c.exchange-a.ensures c.exchange-b.ensures c.exchange.ensures
