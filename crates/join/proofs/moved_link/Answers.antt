-- `join::moved_link` meets its contract: 0 stays, a slot goes up.
-- Assumes nothing.
use mathlib.Core.Path.{sym}
use native.Mathlib.Omega.{arith}
use Rattle.join.proofs.Moved.{link-end, link_up}
use Rattle.join.proofs.moved_link.Goals as goal

pub returns-then-link-eq0 : goal.returns-then-link-eq0
returns-then-link-eq0 c = sym (link-end c.args.up c.args.link (omega arith))

pub returns : goal.returns
returns c = sym (link_up c.args.up c.args.link (omega arith))
