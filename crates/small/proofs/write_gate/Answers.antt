-- `small::write_gate` meets its contract.
-- Assumes nothing.
use mathlib.Core.Path.{◌∙◌, ap}
use Prim.Native.Nat.{◌*◌}
use lib.Seq.{sets}
use Rattle.circuit.specs.File.{width}
use Rattle.small.proofs.Writes.{four-fields}
use Rattle.small.proofs.write_gate.Goals as goal

pub returns : goal.returns
returns c = let x = c.args in
    c.write_four.ensures ∙ ap (sets x.out.now (width * x.k)) (four-fields x.g.kind x.g.a x.g.b x.next)
