-- `join::write_joined` meets its contract: the header, the output wires and the slots, one after the other.
-- Assumes nothing.
use mathlib.Core.Logic.{inr}
use mathlib.Core.Path.{◌≡◌, refl, ap₂, ◌∙◌}
use native.Mathlib.Omega.{arith}
use Rattle.circuit.specs.Fields.{head_of}
use Rattle.circuit.specs.File.{fields_of}
use Rattle.join.proofs.Writes.{header-placed, all_placed}
use Rattle.join.specs.Join.{moved_link, led_on}
use Rattle.join.specs.Steps.{onward}
use Rattle.join.proofs.write_joined.Goals as goal

pub field-requires : goal.field-requires
field-requires c = (inr refl, omega (arith, c.requires.0.second.whole))

pub moved_link-to-requires : goal.moved_link-to-requires
moved_link-to-requires c =
    let x = c in
    omega (arith, c.field.ensures, x.requires.0.second_fits.head, x.requires.0.second.gates, x.requires.0.gates)

pub field-requires-2 : goal.field-requires-2
field-requires-2 c = (inr refl, omega (arith, c.requires.0.first.whole))

pub write_slots-requires : goal.write_slots-requires
write_slots-requires c =
    let x = c in
    let e : c.moved_link-to.result ≡ onward x.args.first.now x.args.second.now =
    c.moved_link-to.ensures ∙ ap₂ moved_link x.requires.0.first.gates c.field.ensures in
    (x.requires.0, (e, omega arith))

pub returns : goal.returns
returns c =
    let x = c in
    let h : c.led_on-head.result ≡ led_on (onward x.args.first.now x.args.second.now) (head_of (fields_of x.args.first.now)) =
    c.led_on-head.ensures ∙ ap₂ led_on (c.moved_link-to.ensures ∙ ap₂ moved_link x.requires.0.first.gates c.field.ensures) c.field-2.ensures in
    all_placed x.args.first.now x.args.second.now x.args.y x.args.z x.requires.0 x.args.out.now _ _ _
    (c.write_four.ensures ∙ header-placed x.args.first.now x.args.second.now x.args.y x.args.z x.requires.0 _ _ _ _ x.args.out.now refl refl refl h)
    c.write_outputs.ensures
    c.write_slots.ensures
