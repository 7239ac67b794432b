-- `seeds::fill_masters` meets its contract: the masters are the last rows of the nodes.
-- Assumes nothing.
use Rattle.bits.proofs.Copies.{prefix-length}
use Rattle.hashing.specs.declared.Context.{Context}
use Rattle.cover.specs.Masters.{child_of, masters_context}
use Rattle.cover.specs.Steps.{nodes_of}
use Rattle.seeds.proofs.Nodes.{height-few, leaves-few, leaves-hold, masters-there, front-holds}
use native.Mathlib.Omega.{arith}
use native.Mathlib.Nat.{pow-succ'}
use mathlib.Core.Path.{refl, sym, ap, ◌∙◌}
use Prim.Native.Nat.{◌+◌, ◌*◌, ◌^◌}
use lib.ListN.{length}
use Rattle.seeds.proofs.fill_masters.Goals as goal

pub leaves-n-requires : goal.leaves-n-requires
leaves-n-requires c = omega (arith, height-few c.args.m c.height-h.result (2 ^ c.height-h.result) c.requires.0 c.height-h.ensures refl)

pub overflow_mul-nodes : goal.overflow_mul-nodes
overflow_mul-nodes c = omega (arith, leaves-few c.args.m c.height-h.result c.leaves-n.result c.requires.0 c.height-h.ensures c.leaves-n.ensures)

pub slice_bounds-nodes-end : goal.slice_bounds-nodes-end
slice_bounds-nodes-end c = omega (arith, leaves-few c.args.m c.height-h.result c.leaves-n.result c.requires.0 c.height-h.ensures c.leaves-n.ensures)

pub slice_bounds-grow-end : goal.slice_bounds-grow-end
slice_bounds-grow-end c = sym (prefix-length (32 * c.leaves-n.result) 16384 (omega (arith, leaves-few c.args.m c.height-h.result c.leaves-n.result c.requires.0 c.height-h.ensures c.leaves-n.ensures)))

pub grow-requires : goal.grow-requires
grow-requires c =
    let w = leaves-few c.args.m c.height-h.result c.leaves-n.result c.requires.0 c.height-h.ensures c.leaves-n.ensures in (
      omega (arith, height-few c.args.m c.height-h.result c.leaves-n.result c.requires.0 c.height-h.ensures c.leaves-n.ensures),
      (
        c.requires.1.1.0,
        prefix-length (32 * c.leaves-n.result) 16384 (omega (arith, w)) ∙ omega (arith, c.leaves-n.ensures, pow-succ' 2 c.height-h.result),
      ),
    )

pub overflow_mul-a : goal.overflow_mul-a
overflow_mul-a c = omega (arith, leaves-few c.args.m c.height-h.result c.leaves-n.result c.requires.0 c.height-h.ensures c.leaves-n.ensures)

pub overflow_add-e : goal.overflow_add-e
overflow_add-e c = omega (arith, leaves-few c.args.m c.height-h.result c.leaves-n.result c.requires.0 c.height-h.ensures c.leaves-n.ensures, c.requires.1.1.1, c.requires.0)

pub slice_bounds-copy-end : goal.slice_bounds-copy-end
slice_bounds-copy-end c =
    let n = c.leaves-n.result in
    front-holds (16 * n + length c.args.out.now) (32 * n) c.grow.new.nodes _
    (c.grow.auto.nodes ∙ prefix-length (32 * n) 16384 (omega (arith, leaves-few c.args.m c.height-h.result c.leaves-n.result c.requires.0 c.height-h.ensures c.leaves-n.ensures)))
    (omega (arith, leaves-hold c.args.m c.height-h.result c.leaves-n.result c.requires.0 c.height-h.ensures c.leaves-n.ensures, c.requires.1.1.1))

pub returns : goal.returns
returns c =
    let x = c.args in
    let q = c.requires in
    c.copy.ensures ∙ masters-there c.args.m c.height-h.result c.leaves-n.result c.requires.0 c.height-h.ensures c.leaves-n.ensures (length x.out.now) x.salt.now x.root.now c.grow.new.nodes _ q.1.1.0 q.1.1.1 (c.grow.ensures ∙ ap (λ (t : Context). nodes_of (child_of t) x.root.now c.height-h.result) (c.masters_tree.ensures ∙ ap masters_context c.salt_in.ensures))

pub salt_in-requires : goal.salt_in-requires
salt_in-requires c = c.requires.1.0
