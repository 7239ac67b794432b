-- `party::clear_from` meets its contract: one byte is cut, the bytes after it are zero.
-- Assumes nothing.
use Rattle.party.proofs.Clearing.{clear-code, clear_none}
use native.Mathlib.Omega.{arith}
use Rattle.party.proofs.clear_from.Goals as goal

pub returns-then-at-s : goal.returns-then-at-s
returns-then-at-s c = clear-code c.args.k c.args.s.now c.clear.new.s (λ i. (c.slice_known-1.given i).fits) c.if-at-s.true c.clear.ensures

pub returns-else-at-s : goal.returns-else-at-s
returns-else-at-s c = clear_none c.args.k c.args.s.now (λ i. (c.slice_known-1.given i).fits) (omega arith)
