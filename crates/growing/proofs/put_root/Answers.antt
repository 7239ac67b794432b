-- `growing::put_root` meets its contract: two parts, one after the other.
-- Assumes nothing.
use Rattle.growing.proofs.Growing.{root-put}
use native.Mathlib.Omega.{arith}
use mathlib.Core.Path.{sym}
use lib.Seq.{length-take-le}
use Rattle.growing.proofs.put_root.Goals as goal

pub slice_bounds-clear-end-2 : goal.slice_bounds-clear-end-2
slice_bounds-clear-end-2 c = sym (length-take-le 16 c.args.nodes.now (omega arith))

pub returns : goal.returns
returns c = root-put c.args.nodes.now c.clear.new.s c.copy.new.to c.args.root.now c.requires.1 c.clear.ensures c.copy.ensures
