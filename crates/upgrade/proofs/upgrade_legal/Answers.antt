-- `upgrade::upgrade_legal` meets its contract: by the length of the output.
-- Assumes nothing.
use mathlib.Core.Path.{refl}
use native.Mathlib.Omega.{arith}
use Rattle.upgrade.proofs.Same.{short-output, long-output}
use Rattle.upgrade.proofs.upgrade_legal.Goals as goal

pub returns-then-out-size : goal.returns-then-out-size
returns-then-out-size c =
    let x = c in
    rw c.into.ensures (short-output x.args.old.now x.args.out.now x.requires _ refl (omega arith))

pub returns : goal.returns
returns c =
    let x = c in
    long-output x.args.old.now x.args.out.now x.requires _ refl (omega arith) _ c.write_fields.ensures
