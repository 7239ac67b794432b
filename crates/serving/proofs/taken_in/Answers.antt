-- `serving::taken_in` meets its contract.
-- Assumes nothing.
use borrow.Author.Rules.{rules}
use mathlib.Core.Path.{refl}
use native.Mathlib.Omega.{arith}
use Rattle.shared.proofs.Services.{after_on, after-good, after-bad}
use Rattle.serving.proofs.taken_in.Goals as goal

pub overflow_add-next : goal.overflow_add-next
overflow_add-next c = omega (arith, c.requires.1.1.1)

pub returns-then-next-m : goal.returns-then-next-m
returns-then-next-m c =
    let x = c.args in
    after_on x.proof.now x.job x.d x.m c.requires.1.1.0 c.if-next-m.true

pub same_hstar-requires : goal.same_hstar-requires
same_hstar-requires c = (c.requires.0, c.requires.1.0)

pub returns-then-same_hstar : goal.returns-then-same_hstar
returns-then-same_hstar c =
    let x = c.args in
    after-good x.proof.now x.job x.d x.m c.requires.1.1.0 c.if-next-m.false _ _ c.same_hstar.ensures c.if-same_hstar.true refl

pub returns : goal.returns
returns c =
    let x = c.args in
    after-bad x.proof.now x.job x.d x.m c.requires.1.1.0 c.if-next-m.false _ _ c.same_hstar.ensures c.if-same_hstar.false (search rules)
