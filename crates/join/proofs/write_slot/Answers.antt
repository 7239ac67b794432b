-- `join::write_slot` meets its contract: the first's slots, then the second's.
-- Assumes nothing.
use mathlib.Core.Path.{◌∙◌}
use native.Mathlib.Omega.{arith}
use Rattle.join.proofs.Writes.{inside-first, inside-second, placed_first, placed-second}
use Rattle.join.proofs.write_slot.Goals as goal

pub write_first-requires : goal.write_first-requires
write_first-requires c =
    let x = c in
    (inside-first x.args.first.now x.args.second.now x.args.y x.args.z x.requires.0 x.args.k (omega arith), omega (arith, x.requires.1.1))

pub write_second-requires : goal.write_second-requires
write_second-requires c =
    let x = c in
    (inside-second x.args.first.now x.args.second.now x.args.y x.args.z x.requires.0 _ (omega (arith, x.requires.1.1.0)), (omega (arith, x.requires.0.first.few_gates), omega (arith, x.requires.1.1)))

pub returns-then-k-gates : goal.returns-then-k-gates
returns-then-k-gates c =
    let x = c in
    c.write_first.ensures ∙ placed_first x.args.first.now x.args.second.now x.args.y x.args.z x.requires.0 x.args.to x.args.k x.args.out.now x.requires.1.0 (omega arith)

pub returns-else-k-gates : goal.returns-else-k-gates
returns-else-k-gates c =
    let x = c in
    c.write_second.ensures ∙ placed-second x.args.first.now x.args.second.now x.args.y x.args.z x.requires.0 x.args.k x.args.out.now (omega arith) x.requires.1.1.0
