-- `join::moved_wire` meets its contract: an input stays, another wire goes up.
-- Assumes nothing.
use mathlib.Core.Path.{sym}
use native.Mathlib.Omega.{arith}
use Rattle.join.proofs.Moved.{wire-input, wire-slot}
use Rattle.join.proofs.moved_wire.Goals as goal

pub returns-then-w-inputs : goal.returns-then-w-inputs
returns-then-w-inputs c = sym (wire-input c.args.inputs c.args.up c.args.wire (omega arith))

pub returns : goal.returns
returns c = sym (wire-slot c.args.inputs c.args.up c.args.wire (omega arith))
