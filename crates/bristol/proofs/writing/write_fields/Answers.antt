-- `bristol::writing::write_fields` meets its contract: of each number its low 32 bits are written.
-- Assumes nothing.
use mathlib.Core.Path.{ap, ◌∙◌}
use Prim.Native.Nat.{◌*◌}
use lib.Seq.{sets}
use Rattle.circuit.specs.File.{width}
use Rattle.bristol.proofs.Stores.{four_low}
use Rattle.bristol.proofs.writing.write_fields.Goals as goal

pub returns : goal.returns
returns c =
    let x = c.args in
    c.write_four.ensures ∙ ap (sets x.out.now (width * x.k)) (four_low x.a x.b x.c x.d)
