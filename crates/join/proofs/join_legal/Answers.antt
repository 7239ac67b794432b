-- `join::join_legal` meets its contract: 25, then 2, then the file.
-- Assumes nothing.
use mathlib.Core.Path.{refl, ◌∙◌}
use native.Mathlib.Omega.{arith}
use Rattle.join.proofs.Outcomes.{few-as, refuse-inputs, refuse-sums, goes_on, pair}
use Rattle.join.proofs.join_legal.Goals as goal

pub overflow_add-y : goal.overflow_add-y
overflow_add-y c = omega (arith, few-as c.args.first.now c.args.y c.requires.0, few-as c.args.second.now c.args.z c.requires.1)

pub overflow_add-y-2 : goal.overflow_add-y-2
overflow_add-y-2 c = omega (arith, few-as c.args.first.now c.args.y c.requires.0, few-as c.args.second.now c.args.z c.requires.1)

pub returns-then-not-same : goal.returns-then-not-same
returns-then-not-same c =
    let x = c in
    refuse-inputs x.args.first.now x.args.second.now x.args.out.now x.args.y x.requires.0 x.args.z x.requires.1 _ _ c.sums_within-within.ensures refl c.if-not-same.true-raw

pub returns-then-not-within : goal.returns-then-not-within
returns-then-not-within c =
    let x = c in
    refuse-sums x.args.first.now x.args.second.now x.args.out.now x.args.y x.requires.0 x.args.z x.requires.1 _ _ c.sums_within-within.ensures refl (cc) c.if-not-within.true-raw

pub build-requires : goal.build-requires
build-requires c =
    let x = c in
    pair x.args.first.now x.args.second.now x.args.out.now x.args.y x.requires.0 x.args.z x.requires.1 _ _ c.sums_within-within.ensures refl c.if-not-same.false-raw c.if-not-within.false-raw

pub returns : goal.returns
returns c =
    let x = c in
    c.build.ensures ∙ goes_on x.args.first.now x.args.second.now x.args.out.now x.args.y x.requires.0 x.args.z x.requires.1 _ _ c.sums_within-within.ensures refl c.if-not-same.false-raw c.if-not-within.false-raw
