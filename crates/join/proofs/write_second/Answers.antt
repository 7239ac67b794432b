-- `join::write_second` meets its contract: the four fields of the slot, moved up.
-- Assumes nothing.
use mathlib.Core.Logic.{inr}
use mathlib.Core.Path.{refl, ap, ◌∙◌}
use Prim.Native.Nat.{◌*◌}
use native.Mathlib.Omega.{arith}
use lib.Seq.{sets}
use Rattle.circuit.specs.File.{width}
use Rattle.join.proofs.Writes.{second-four, small-a, small_b, small-next}
use Rattle.join.proofs.write_second.Goals as goal

pub field-kind-requires : goal.field-kind-requires
field-kind-requires c = (inr refl, omega (arith, c.requires.0.room))

pub field-a-requires : goal.field-a-requires
field-a-requires c = (inr refl, omega (arith, c.requires.0.room))

pub field-b-requires : goal.field-b-requires
field-b-requires c = (inr refl, omega (arith, c.requires.0.room))

pub field-next-requires : goal.field-next-requires
field-next-requires c = (inr refl, omega (arith, c.requires.0.room))

pub moved_wire-wire-requires : goal.moved_wire-wire-requires
moved_wire-wire-requires c =
    let x = c in
    small-a x.args.second.now x.args.outputs x.args.k x.requires.0 _ _ _ _ c.field-kind.ensures c.field-a.ensures c.field-b.ensures c.field-next.ensures x.args.up x.requires.1.0

pub moved_wire-other-requires : goal.moved_wire-other-requires
moved_wire-other-requires c =
    let x = c in
    small_b x.args.second.now x.args.outputs x.args.k x.requires.0 _ _ _ _ c.field-kind.ensures c.field-a.ensures c.field-b.ensures c.field-next.ensures x.args.up x.requires.1.0

pub moved_link-requires : goal.moved_link-requires
moved_link-requires c =
    let x = c in
    small-next x.args.second.now x.args.outputs x.args.k x.requires.0 _ _ _ _ c.field-kind.ensures c.field-a.ensures c.field-b.ensures c.field-next.ensures x.args.up x.requires.1.0

pub returns : goal.returns
returns c =
    let x = c in
    c.write_four.ensures
    ∙ ap (sets x.args.out.now (width * x.args.at))
    (second-four x.args.second.now x.args.outputs x.args.k x.requires.0 _ _ _ _ c.field-kind.ensures c.field-a.ensures c.field-b.ensures c.field-next.ensures
    x.args.inputs x.args.up _ _ _ c.moved_wire-wire.ensures c.moved_wire-other.ensures c.moved_link.ensures)
