-- `seeds::cover` meets its contract: each refusal in order, and the opened nodes.
-- Assumes nothing.
use borrow.Author.Tests.{eq-eqb, ne_eqb}
use Rattle.seeds.specs.Operations.{cover_op}
use Rattle.seeds.proofs.Nodes.{size-most}
use native.Mathlib.Omega.{arith}
use mathlib.Core.Path.{sym, ◌∙◌}
use Prim.Native.Nat.{◌%◌}
use lib.ListN.{length}
use Rattle.seeds.proofs.cover.Goals as goal

pub returns-then-not-fit : goal.returns-then-not-fit
unfolding cover_op
returns-then-not-fit c = rw (sym c.tree_size-fit.ensures ∙ c.if-not-fit.true)

pub returns-then-not-listed : goal.returns-then-not-listed
unfolding cover_op
returns-then-not-listed c = rw ((sym c.tree_size-fit.ensures ∙ c.if-not-fit.false), sym c.are_leaves-listed.ensures ∙ c.if-not-listed.true)

pub returns-then-hidden-ne0 : goal.returns-then-hidden-ne0
unfolding cover_op
returns-then-hidden-ne0 c = rw ((sym c.tree_size-fit.ensures ∙ c.if-not-fit.false), (sym c.are_leaves-listed.ensures ∙ c.if-not-listed.false), ne_eqb (length c.args.hidden.now % 2) 0 c.if-hidden-ne0.true)

pub returns-then-root-ne16 : goal.returns-then-root-ne16
unfolding cover_op
returns-then-root-ne16 c = let x = c.args in rw ((sym c.tree_size-fit.ensures ∙ c.if-not-fit.false), (sym c.are_leaves-listed.ensures ∙ c.if-not-listed.false), eq-eqb (length x.hidden.now % 2) 0 (omega (arith, c.if-hidden-ne0.false)), eq-eqb (length x.salt.now) 32 (omega (arith, c.if-salt-ne32.false)), ne_eqb (length x.root.now) 16 c.if-root-ne16.true)

pub open_listed-requires : goal.open_listed-requires
open_listed-requires c = (size-most c.args.m (sym c.tree_size-fit.ensures ∙ c.if-not-fit.false), (sym c.are_leaves-listed.ensures ∙ c.if-not-listed.false, (omega (arith, c.if-salt-ne32.false), omega (arith, c.if-root-ne16.false))))

pub returns : goal.returns
unfolding cover_op
returns c =
    let x = c.args in
    rw ((sym c.tree_size-fit.ensures ∙ c.if-not-fit.false), (sym c.are_leaves-listed.ensures ∙ c.if-not-listed.false), eq-eqb (length x.hidden.now % 2) 0 (omega (arith, c.if-hidden-ne0.false)), eq-eqb (length x.salt.now) 32 (omega (arith, c.if-salt-ne32.false)), eq-eqb (length x.root.now) 16 (omega (arith, c.if-root-ne16.false)))
    c.open_listed.ensures

pub returns-then-salt-ne32 : goal.returns-then-salt-ne32
unfolding cover_op
returns-then-salt-ne32 c = let x = c.args in rw ((sym c.tree_size-fit.ensures ∙ c.if-not-fit.false), (sym c.are_leaves-listed.ensures ∙ c.if-not-listed.false), eq-eqb (length x.hidden.now % 2) 0 (omega (arith, c.if-hidden-ne0.false)), ne_eqb (length x.salt.now) 32 c.if-salt-ne32.true)
