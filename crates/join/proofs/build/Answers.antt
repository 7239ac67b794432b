-- `join::build` meets its contract: by the length of the output.
-- Assumes nothing.
use mathlib.Core.Path.{refl}
use native.Mathlib.Omega.{arith}
use Rattle.join.proofs.Writes.{short-output, long-output}
use Rattle.join.proofs.build.Goals as goal

pub returns-then-out-size : goal.returns-then-out-size
returns-then-out-size c =
    let x = c in
    short-output x.args.first.now x.args.second.now x.args.y x.args.z x.requires x.args.out.now _ refl (omega arith)

pub returns : goal.returns
returns c =
    let x = c in
    long-output x.args.first.now x.args.second.now x.args.y x.args.z x.requires x.args.out.now _ _ refl (omega arith) c.write_joined.ensures
