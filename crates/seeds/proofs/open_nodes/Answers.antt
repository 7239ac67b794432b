-- `seeds::open_nodes` meets its contract: all nodes, and the opened ones of them.
-- Assumes nothing.
use Rattle.bits.specs.Bytes.{row_of}
use Rattle.bits.proofs.Copies.{prefix-length}
use Rattle.hashing.specs.declared.Context.{Context}
use Rattle.cover.specs.Masters.{child_of, masters_context}
use Rattle.cover.specs.Steps.{cover_by, nodes_of}
use Rattle.seeds.proofs.Nodes.{front-holds, front-is, marks-few}
use native.Mathlib.Omega.{arith}
use mathlib.Core.Path.{sym, ap, ◌∙◌}
use mathlib.Core.List.{List, map, flatten}
use Prim.Native.Nat.{ℕ, ◌*◌, ◌≤◌}
use lib.ListN.{length}
use lib.Seq.{take_at}
use Rattle.seeds.proofs.open_nodes.Goals as goal

pub overflow_mul-end : goal.overflow_mul-end
overflow_mul-end c = omega (arith, c.requires.1.0, marks-few c.args.h c.requires.0.0)

pub slice_bounds-nodes-end : goal.slice_bounds-nodes-end
slice_bounds-nodes-end c = omega (arith, c.requires.1.0, marks-few c.args.h c.requires.0.0)

pub slice_bounds-grow-end : goal.slice_bounds-grow-end
slice_bounds-grow-end c = sym (prefix-length (16 * length c.args.marks.now) 16384 (omega (arith, c.requires.1.0, marks-few c.args.h c.requires.0.0)))

pub grow-requires : goal.grow-requires
grow-requires c =
    let q = c.requires in
    let w : 16 * length c.args.marks.now ≤ 16384 = omega (arith, q.1.0, marks-few c.args.h q.0.0) in
    (omega (arith, q.0.0), (q.0.1.1, prefix-length (16 * length c.args.marks.now) 16384 w ∙ ap (λ (k : ℕ). 16 * k) q.1.0))

pub slice_bounds-nodes-end-2 : goal.slice_bounds-nodes-end-2
slice_bounds-nodes-end-2 c =
    let k = 16 * length c.args.marks.now in
    let w : k ≤ 16384 = omega (arith, c.requires.1.0, marks-few c.args.h c.requires.0.0) in
    front-holds k k c.grow.new.nodes _ (c.grow.auto.nodes ∙ prefix-length k 16384 w) (omega arith)

pub slice_bounds-gather-end : goal.slice_bounds-gather-end
slice_bounds-gather-end c =
    let k = 16 * length c.args.marks.now in
    let w : k ≤ 16384 = omega (arith, c.requires.1.0, marks-few c.args.h c.requires.0.0) in
    sym (front-is k c.grow.new.nodes _ (c.grow.auto.nodes ∙ prefix-length k 16384 w))

pub gather-requires : goal.gather-requires
gather-requires c =
    let k = 16 * length c.args.marks.now in
    let w : k ≤ 16384 = omega (arith, c.requires.1.0, marks-few c.args.h c.requires.0.0) in
    (front-is k c.grow.new.nodes _ (c.grow.auto.nodes ∙ prefix-length k 16384 w), c.requires.1.1)

pub returns : goal.returns
returns c =
    let k = 16 * length c.args.marks.now in
    let w : k ≤ 16384 = omega (arith, c.requires.1.0, marks-few c.args.h c.requires.0.0) in
    c.gather.ensures
    ∙ ap (λ (s : List ℕ). flatten (map (row_of s 16) (cover_by c.args.marks.now)))
    (take_at c.grow.new.nodes _ k (c.grow.auto.nodes ∙ prefix-length k 16384 w) ∙ c.grow.ensures
    ∙ ap (λ (t : Context). nodes_of (child_of t) c.args.root.now c.args.h) (c.masters_tree.ensures ∙ ap masters_context c.salt_in.ensures))

pub salt_in-requires : goal.salt_in-requires
salt_in-requires c = c.requires.0.1.0
