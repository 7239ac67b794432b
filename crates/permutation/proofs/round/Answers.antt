-- `permutation::round` meets its contract: the five steps in the standard's order, each by what it ensures.
-- Assumes nothing.
use borrow.Author.Rules.{rules}
use Rattle.permutation.proofs.Rounds.{round_is}
use Rattle.permutation.proofs.round.Goals as goal

pub returns : goal.returns
returns c = search (rules, round_is)
