-- `join::led_on` meets its contract: 0 leads on, a slot stays.
-- Assumes nothing.
use mathlib.Core.Path.{sym}
use native.Mathlib.Omega.{arith}
use Rattle.join.proofs.Moved.{led-end, led-slot}
use Rattle.join.proofs.led_on.Goals as goal

pub returns-then-link-eq0 : goal.returns-then-link-eq0
returns-then-link-eq0 c = sym (led-end c.args.to c.args.link (omega arith))

pub returns : goal.returns
returns c = sym (led-slot c.args.to c.args.link (omega arith))
