-- `join::write_first` meets its contract: the four fields of the slot, its link led on.
-- Assumes nothing.
use mathlib.Core.Logic.{inr}
use mathlib.Core.Path.{refl, ap, ◌∙◌}
use Prim.Native.Nat.{◌*◌}
use native.Mathlib.Omega.{arith}
use lib.Seq.{sets}
use Rattle.circuit.specs.File.{width}
use Rattle.join.proofs.Writes.{first-four}
use Rattle.join.proofs.write_first.Goals as goal

pub field-kind-requires : goal.field-kind-requires
field-kind-requires c = (inr refl, omega (arith, c.requires.0.room))

pub field-a-requires : goal.field-a-requires
field-a-requires c = (inr refl, omega (arith, c.requires.0.room))

pub field-b-requires : goal.field-b-requires
field-b-requires c = (inr refl, omega (arith, c.requires.0.room))

pub field-next-requires : goal.field-next-requires
field-next-requires c = (inr refl, omega (arith, c.requires.0.room))

pub returns : goal.returns
returns c =
    let x = c in
    c.write_four.ensures
    ∙ ap (sets x.args.out.now (width * x.args.at))
    (first-four x.args.first.now x.args.outputs x.args.k x.requires.0 _ _ _ _ c.field-kind.ensures c.field-a.ensures c.field-b.ensures c.field-next.ensures
    x.args.to _ c.led_on.ensures)
