-- `seeds::open` meets its contract: each refusal in order, and the siblings.
-- Assumes nothing.
use mathlib.Core.List.{List, [], ◌∷◌}
use Rattle.refusal.specs.Outcome.{done}
use Rattle.hashing.specs.Inputs.{context_of}
use Rattle.tree.specs.Tree.{siblings_below}
use borrow.Author.Tests.{lt-leb, le-leb, lt-ltb, le-ltb, eq-eqb, ne_eqb}
use Rattle.parties.specs.Parties.{height_of}
use Rattle.seeds.specs.Operations.{open_op}
use Rattle.parties.proofs.Counts.{sizes, count_yes, count_no, is_count, no_count}
use native.Mathlib.Omega.{arith}
use mathlib.Core.Path.{sym, ap, ◌∙◌}
use Prim.Native.Nat.{ℕ, ◌*◌}
use lib.ListN.{length}
use Rattle.seeds.proofs.open.Goals as goal

pub returns-then-j-gt65535 : goal.returns-then-j-gt65535
unfolding open_op
returns-then-j-gt65535 c =
    let x = c.args in
    rw (lt-leb x.j 65535 c.if-j-gt65535.true)

pub returns-in_default : goal.returns-in_default
unfolding open_op
returns-in_default c =
    let x = c.args in
    rw (le-leb x.j 65535 (omega (arith, c.if-j-gt65535.false)), count_no x.n (no_count x.n _ c.height.ensures c.in_default.is))

pub returns-then-p-n : goal.returns-then-p-n
unfolding open_op
returns-then-p-n c =
    let x = c.args in
    let k = is_count x.n c.in-Some.h _ c.height.ensures c.in-Some.is in
    rw (le-leb x.j 65535 (omega (arith, c.if-j-gt65535.false)), count_yes x.n k.some, le-ltb x.p x.n c.if-p-n.true)

pub returns-then-master-ne16 : goal.returns-then-master-ne16
unfolding open_op
returns-then-master-ne16 c =
    let x = c.args in
    let k = is_count x.n c.in-Some.h _ c.height.ensures c.in-Some.is in
    rw (le-leb x.j 65535 (omega (arith, c.if-j-gt65535.false)), count_yes x.n k.some, lt-ltb x.p x.n (omega (arith, c.if-p-n.false)), eq-eqb (length x.salt.now) 32 (omega (arith, c.if-salt-ne32.false)), ne_eqb (length x.master.now) 16 c.if-master-ne16.true)

pub returns-then-siblings-h : goal.returns-then-siblings-h
unfolding open_op
returns-then-siblings-h c =
    let x = c.args in
    let k = is_count x.n c.in-Some.h _ c.height.ensures c.in-Some.is in
    rw (le-leb x.j 65535 (omega (arith, c.if-j-gt65535.false)), count_yes x.n k.some, lt-ltb x.p x.n (omega (arith, c.if-p-n.false)), eq-eqb (length x.salt.now) 32 (omega (arith, c.if-salt-ne32.false)), eq-eqb (length x.master.now) 16 (omega (arith, c.if-master-ne16.false)), ne_eqb (length x.siblings.now) (16 * height_of x.n) (λ e. c.if-siblings-h.true (omega (arith, e, k.is))))

pub siblings_below-requires : goal.siblings_below-requires
siblings_below-requires c =
    let x = c.args in
    let k = is_count x.n c.in-Some.h _ c.height.ensures c.in-Some.is in
    let z = sizes x.n k.some in
    (omega (arith, c.if-master-ne16.false), (omega (arith, c.if-siblings-h.false), rw k.is (omega arith, omega (arith, c.if-p-n.false))))

pub returns : goal.returns
unfolding open_op
returns c =
    let x = c.args in
    let k = is_count x.n c.in-Some.h _ c.height.ensures c.in-Some.is in
    rw (le-leb x.j 65535 (omega (arith, c.if-j-gt65535.false)), count_yes x.n k.some, lt-ltb x.p x.n (omega (arith, c.if-p-n.false)), eq-eqb (length x.salt.now) 32 (omega (arith, c.if-salt-ne32.false)), eq-eqb (length x.master.now) 16 (omega (arith, c.if-master-ne16.false)), eq-eqb (length x.siblings.now) (16 * height_of x.n) (omega (arith, c.if-siblings-h.false, k.is)))
    (ap (λ (o : List ℕ). done (o ∷ [])) (c.siblings_below.ensures ∙ ap (λ (t : List ℕ). siblings_below (context_of t x.j) c.in-Some.h 1 x.p x.master.now) c.salt_in.ensures ∙ ap (λ (h : ℕ). siblings_below (context_of x.salt.now x.j) h 1 x.p x.master.now) k.is))

pub returns-then-salt-ne32 : goal.returns-then-salt-ne32
unfolding open_op
returns-then-salt-ne32 c =
    let x = c.args in
    let k = is_count x.n c.in-Some.h _ c.height.ensures c.in-Some.is in
    rw (le-leb x.j 65535 (omega (arith, c.if-j-gt65535.false)), count_yes x.n k.some, lt-ltb x.p x.n (omega (arith, c.if-p-n.false)), ne_eqb (length x.salt.now) 32 c.if-salt-ne32.true)

pub salt_in-requires : goal.salt_in-requires
salt_in-requires c = omega (arith, c.if-salt-ne32.false)
