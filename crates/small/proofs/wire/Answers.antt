-- `small::wire` meets its contract.
-- Assumes nothing.
use mathlib.Core.Path.{sym}
use native.Mathlib.Omega.{arith}
use Rattle.small.proofs.Gates.{wire-input, wire-other}
use Rattle.small.proofs.wire.Goals as goal

pub returns-then-i-inputs : goal.returns-then-i-inputs
returns-then-i-inputs c = let x = c.args in sym (wire-input x.inputs x.other x.i (omega arith))

pub returns : goal.returns
returns c = let x = c.args in sym (wire-other x.inputs x.other x.i (omega arith))
