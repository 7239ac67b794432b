-- `join::joined_output` meets its contract: the first's output wires, then the second's.
-- Assumes nothing.
use mathlib.Core.Logic.{inr}
use mathlib.Core.Path.{refl}
use native.Mathlib.Omega.{arith}
use Rattle.join.proofs.Writes.{output-first, output-small, output-second}
use Rattle.join.proofs.joined_output.Goals as goal

pub field-requires : goal.field-requires
field-requires c =
    let x = c in
    (inr refl, omega (arith, x.requires.0.first.whole, x.requires.0.second.whole))

pub returns-then-j-outputs : goal.returns-then-j-outputs
returns-then-j-outputs c =
    let x = c in
    output-first x.args.first.now x.args.second.now x.args.y x.args.z x.requires.0 x.args.j _ (omega arith) c.field.ensures

pub field-wire-requires : goal.field-wire-requires
field-wire-requires c =
    let x = c in
    (inr refl, omega (arith, x.requires.0.first.whole, x.requires.0.second.whole))

pub moved_wire-requires : goal.moved_wire-requires
moved_wire-requires c =
    let x = c in
    output-small x.args.first.now x.args.second.now x.args.y x.args.z x.requires.0 x.args.j _ (omega arith) x.requires.1 c.field-wire.ensures

pub returns : goal.returns
returns c =
    let x = c in
    output-second x.args.first.now x.args.second.now x.args.y x.args.z x.requires.0 x.args.j _ _ (omega arith) x.requires.1 c.field-wire.ensures
    c.moved_wire.ensures
