-- `seeds::masters` meets its contract: each refusal in order, and the masters.
-- Assumes nothing.
use mathlib.Core.List.{List, [], ◌∷◌}
use borrow.Author.Tests.{eq-eqb, ne_eqb}
use Rattle.refusal.specs.Outcome.{done}
use Rattle.seeds.specs.Operations.{masters_op}
use Rattle.seeds.proofs.Nodes.{size-most}
use native.Mathlib.Omega.{arith}
use mathlib.Core.Path.{sym, ap, ◌∙◌}
use Prim.Native.Nat.{ℕ, ◌*◌}
use lib.ListN.{length}
use Rattle.seeds.proofs.masters.Goals as goal

pub returns-then-not-fit : goal.returns-then-not-fit
unfolding masters_op
returns-then-not-fit c = rw (sym c.tree_size-fit.ensures ∙ c.if-not-fit.true)

pub returns-then-root-ne16 : goal.returns-then-root-ne16
unfolding masters_op
returns-then-root-ne16 c = let x = c.args in rw ((sym c.tree_size-fit.ensures ∙ c.if-not-fit.false), eq-eqb (length x.salt.now) 32 (omega (arith, c.if-salt-ne32.false)), ne_eqb (length x.root.now) 16 c.if-root-ne16.true)

pub returns-then-out-m : goal.returns-then-out-m
unfolding masters_op
returns-then-out-m c = let x = c.args in rw ((sym c.tree_size-fit.ensures ∙ c.if-not-fit.false), eq-eqb (length x.salt.now) 32 (omega (arith, c.if-salt-ne32.false)), eq-eqb (length x.root.now) 16 (omega (arith, c.if-root-ne16.false)), ne_eqb (length x.out.now) (16 * x.m) c.if-out-m.true)

pub fill_masters-requires : goal.fill_masters-requires
fill_masters-requires c = (size-most c.args.m (sym c.tree_size-fit.ensures ∙ c.if-not-fit.false), (omega (arith, c.if-salt-ne32.false), (omega (arith, c.if-root-ne16.false), omega (arith, c.if-out-m.false))))

pub returns : goal.returns
unfolding masters_op
returns c =
    let x = c.args in
    rw ((sym c.tree_size-fit.ensures ∙ c.if-not-fit.false), eq-eqb (length x.salt.now) 32 (omega (arith, c.if-salt-ne32.false)), eq-eqb (length x.root.now) 16 (omega (arith, c.if-root-ne16.false)), eq-eqb (length x.out.now) (16 * x.m) (omega (arith, c.if-out-m.false)))
    (ap (λ (o : List ℕ). done (o ∷ [])) c.fill_masters.ensures)

pub returns-then-salt-ne32 : goal.returns-then-salt-ne32
unfolding masters_op
returns-then-salt-ne32 c = let x = c.args in rw ((sym c.tree_size-fit.ensures ∙ c.if-not-fit.false), ne_eqb (length x.salt.now) 32 c.if-salt-ne32.true)
