-- `seeds::challenge` meets its contract: each refusal in order, and the challenge.
-- Assumes nothing.
use mathlib.Core.List.{List, [], ◌∷◌}
use borrow.Author.Tests.{eq-eqb, ne_eqb}
use Rattle.refusal.specs.Outcome.{done}
use Rattle.seeds.specs.Operations.{challenge_op}
use Rattle.parties.proofs.Counts.{sizes, count_yes, count_no, some_height, no_height}
use Rattle.seeds.proofs.Instances.{counts-fit}
use native.Mathlib.Omega.{arith}
use mathlib.Core.Path.{sym, ap, ◌∙◌}
use Prim.Native.Nat.{ℕ, ◌*◌}
use lib.ListN.{length}
use Rattle.seeds.proofs.challenge.Goals as goal

pub returns-then-not-fit : goal.returns-then-not-fit
unfolding challenge_op
returns-then-not-fit c = rw ((sym c.counts-fit.ensures ∙ c.if-not-fit.true))

pub returns-then-is_none : goal.returns-then-is_none
unfolding challenge_op
returns-then-is_none c =
    let x = c.args in
    rw ((sym c.counts-fit.ensures ∙ c.if-not-fit.false), count_no x.n (no_height x.n _ _ c.height.ensures c.is_none.ensures c.if-is_none.true))

pub returns-then-not-lent : goal.returns-then-not-lent
unfolding challenge_op
returns-then-not-lent c =
    let x = c.args in
    rw ((sym c.counts-fit.ensures ∙ c.if-not-fit.false), count_yes x.n (some_height _ _ _ c.height.ensures c.is_none.ensures c.if-is_none.false), (sym c.statement_fits-lent.ensures ∙ c.if-not-lent.true))

pub returns-then-out-tau : goal.returns-then-out-tau
unfolding challenge_op
returns-then-out-tau c =
    let x = c.args in
    rw ((sym c.counts-fit.ensures ∙ c.if-not-fit.false), count_yes x.n (some_height _ _ _ c.height.ensures c.is_none.ensures c.if-is_none.false), (sym c.statement_fits-lent.ensures ∙ c.if-not-lent.false), ne_eqb (length x.out.now) (3 * x.tau) c.if-out-tau.true)

pub overflow_cast-n : goal.overflow_cast-n
overflow_cast-n c =
    let z = sizes c.args.n (some_height _ _ _ c.height.ensures c.is_none.ensures c.if-is_none.false) in
    record { fits = omega arith }

pub derive-requires : goal.derive-requires
derive-requires c =
    let x = c.args in
    let z = sizes x.n (some_height _ _ _ c.height.ensures c.is_none.ensures c.if-is_none.false) in
    let f = counts-fit x.m x.tau (sym c.counts-fit.ensures ∙ c.if-not-fit.false) in
    (f.most, (f.below, (omega arith, omega (arith, c.if-out-tau.false))))

pub returns : goal.returns
unfolding challenge_op
returns c =
    let x = c.args in
    rw ((sym c.counts-fit.ensures ∙ c.if-not-fit.false), count_yes x.n (some_height _ _ _ c.height.ensures c.is_none.ensures c.if-is_none.false), (sym c.statement_fits-lent.ensures ∙ c.if-not-lent.false), eq-eqb (length x.out.now) (3 * x.tau) (omega (arith, c.if-out-tau.false)))
    (ap (λ (o : List ℕ). done (o ∷ [])) c.derive.ensures)
