-- `bristol::conversion::convert_good` meets its contract: by the length of the output.
-- Assumes nothing.
use native.Mathlib.Omega.{arith}
use Rattle.bristol.proofs.Writes.{convert-short, convert-long}
use Rattle.bristol.proofs.conversion.convert_good.Goals as goal

pub record_place-size-requires : goal.record_place-size-requires
record_place-size-requires c =
    let p = c.requires in
    (p.0.few_outputs, p.0.few_gates)

pub returns-then-out-size : goal.returns-then-out-size
returns-then-out-size c =
    let x = c in
    convert-short x.args.text.now x.args.z x.args.c.at x.requires.0 x.requires.1 x.args.out.now (omega (arith, c.record_place-size.ensures))

pub write_file-requires : goal.write_file-requires
write_file-requires c =
    let x = c in
    (record { few = x.requires.0; room = omega (arith, c.record_place-size.ensures) }, x.requires.1)

pub returns : goal.returns
returns c =
    let x = c in
    convert-long x.args.text.now x.args.z x.args.c.at x.requires.0 x.requires.1 x.args.out.now (omega (arith, c.record_place-size.ensures)) _ c.record_place-size.ensures _ c.write_file.ensures
