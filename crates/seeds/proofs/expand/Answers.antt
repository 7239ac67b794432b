-- `seeds::expand` meets its contract: each refusal in order, and the leaves.
-- Assumes nothing.
use mathlib.Core.List.{List, [], ◌∷◌}
use Rattle.refusal.specs.Outcome.{done}
use Rattle.hashing.specs.Inputs.{context_of}
use Rattle.tree.specs.Tree.{leaves_below}
use borrow.Author.Tests.{lt-leb, le-leb, eq-eqb, ne_eqb}
use Rattle.seeds.specs.Operations.{expand_op}
use Rattle.parties.proofs.Counts.{sizes, count_yes, count_no, is_count, no_count}
use native.Mathlib.Omega.{arith}
use mathlib.Core.Path.{sym, ap, ◌∙◌}
use Prim.Native.Nat.{ℕ, ◌*◌}
use lib.ListN.{length}
use Rattle.seeds.proofs.expand.Goals as goal

pub returns-then-j-gt65535 : goal.returns-then-j-gt65535
unfolding expand_op
returns-then-j-gt65535 c =
    let x = c.args in
    rw (lt-leb x.j 65535 c.if-j-gt65535.true)

pub returns-in_default : goal.returns-in_default
unfolding expand_op
returns-in_default c =
    let x = c.args in
    rw (le-leb x.j 65535 (omega (arith, c.if-j-gt65535.false)), count_no x.n (no_count x.n _ c.height.ensures c.in_default.is))

pub returns-then-master-ne16 : goal.returns-then-master-ne16
unfolding expand_op
returns-then-master-ne16 c =
    let x = c.args in
    let k = is_count x.n c.in-Some.h _ c.height.ensures c.in-Some.is in
    rw (le-leb x.j 65535 (omega (arith, c.if-j-gt65535.false)), count_yes x.n k.some, eq-eqb (length x.salt.now) 32 (omega (arith, c.if-salt-ne32.false)), ne_eqb (length x.master.now) 16 c.if-master-ne16.true)

pub returns-then-leaves-n : goal.returns-then-leaves-n
unfolding expand_op
returns-then-leaves-n c =
    let x = c.args in
    let k = is_count x.n c.in-Some.h _ c.height.ensures c.in-Some.is in
    rw (le-leb x.j 65535 (omega (arith, c.if-j-gt65535.false)), count_yes x.n k.some, eq-eqb (length x.salt.now) 32 (omega (arith, c.if-salt-ne32.false)), eq-eqb (length x.master.now) 16 (omega (arith, c.if-master-ne16.false)), ne_eqb (length x.leaves.now) (16 * x.n) c.if-leaves-n.true)

pub leaves_below-requires : goal.leaves_below-requires
leaves_below-requires c =
    let x = c.args in
    let k = is_count x.n c.in-Some.h _ c.height.ensures c.in-Some.is in
    let z = sizes x.n k.some in
    rw k.is (omega (arith, c.if-master-ne16.false), (omega (arith, c.if-leaves-n.false), omega arith))

pub returns : goal.returns
unfolding expand_op
returns c =
    let x = c.args in
    let k = is_count x.n c.in-Some.h _ c.height.ensures c.in-Some.is in
    rw (le-leb x.j 65535 (omega (arith, c.if-j-gt65535.false)), count_yes x.n k.some, eq-eqb (length x.salt.now) 32 (omega (arith, c.if-salt-ne32.false)), eq-eqb (length x.master.now) 16 (omega (arith, c.if-master-ne16.false)), eq-eqb (length x.leaves.now) (16 * x.n) (omega (arith, c.if-leaves-n.false)))
    (ap (λ (o : List ℕ). done (o ∷ [])) (c.leaves_below.ensures ∙ ap (λ (t : List ℕ). leaves_below (context_of t x.j) c.in-Some.h 1 x.master.now) c.salt_in.ensures ∙ ap (λ (h : ℕ). leaves_below (context_of x.salt.now x.j) h 1 x.master.now) k.is))

pub returns-then-salt-ne32 : goal.returns-then-salt-ne32
unfolding expand_op
returns-then-salt-ne32 c =
    let x = c.args in
    let k = is_count x.n c.in-Some.h _ c.height.ensures c.in-Some.is in
    rw (le-leb x.j 65535 (omega (arith, c.if-j-gt65535.false)), count_yes x.n k.some, ne_eqb (length x.salt.now) 32 c.if-salt-ne32.true)

pub salt_in-requires : goal.salt_in-requires
salt_in-requires c = omega (arith, c.if-salt-ne32.false)
