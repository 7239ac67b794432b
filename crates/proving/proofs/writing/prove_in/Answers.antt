-- `proving::writing::prove_in` meets its contract: the rows of the masters' tree are grown from the root.
-- Assumes nothing.
use mathlib.Core.Path.{sym, ap, subst, ◌∙◌}
use mathlib.Core.List.{List, ◌++◌}
use Prim.Native.Nat.{ℕ, suc, ◌*◌, ◌^◌}
use native.Mathlib.Omega.{arith}
use lib.ListN.{length, drop}
use Rattle.bits.proofs.Copies.{prefix-length}
use Rattle.circuit.specs.File.{circuit_of}
use Rattle.hashing.specs.declared.Context.{Context}
use Rattle.cover.specs.Masters.{child_of, masters_context}
use Rattle.cover.specs.Steps.{nodes_of}
use Rattle.seeds.proofs.Instances.{counts-fit}
use Rattle.instance.proofs.Sent.{front-inside, front-back, front-taken}
use Rattle.proof.specs.Protocol.{statement_of}
use Rattle.proof.specs.Prove.{proof_of}
use Rattle.rounds.specs.Steps.{Tested}
use Rattle.proof.proofs.Leaves.{masters-low}
use Rattle.proving.proofs.Trees.{rows_grown, proof-grown}
use Rattle.proving.proofs.writing.prove_in.Goals as goal

pub row_count-len-requires : goal.row_count-len-requires
row_count-len-requires c = (counts-fit _ _ c.requires.1.0.counts).most

pub overflow_mul-len : goal.overflow_mul-len
overflow_mul-len c = omega (arith, c.row_count-len.ensures.1)

pub height-requires : goal.height-requires
height-requires c = (counts-fit _ _ c.requires.1.0.counts).most

pub slice_bounds-nodes-end : goal.slice_bounds-nodes-end
slice_bounds-nodes-end c = omega (arith, c.row_count-len.ensures.1)

pub slice_bounds-grow-end : goal.slice_bounds-grow-end
slice_bounds-grow-end c = sym (prefix-length (16 * c.row_count-len.result) 16384 (omega (arith, c.row_count-len.ensures.1)))

pub grow-requires : goal.grow-requires
grow-requires c =
    let e = c.row_count-len.ensures.0 ∙ ap (λ (h : ℕ). 2 ^ suc h) (sym c.height.ensures) in
    (omega (arith, c.height.ensures, masters-low c.args.k.instances (counts-fit _ _ c.requires.1.0.counts).most), (c.requires.1.1, prefix-length (16 * c.row_count-len.result) 16384 (omega (arith, c.row_count-len.ensures.1)) ∙ ap (λ (i : ℕ). 16 * i) e))

pub slice_bounds-nodes-end-2 : goal.slice_bounds-nodes-end-2
slice_bounds-nodes-end-2 c = front-inside 16384 (16 * c.row_count-len.result) c.grow.new.nodes (omega (arith, c.row_count-len.ensures.1)) c.grow.auto.nodes

pub slice_bounds-prove_from-end : goal.slice_bounds-prove_from-end
slice_bounds-prove_from-end c = front-taken 16384 (16 * c.row_count-len.result) c.grow.new.nodes (omega (arith, c.row_count-len.ensures.1)) c.grow.auto.nodes

pub prove_from-requires : goal.prove_from-requires
prove_from-requires c =
    let x = c.args in
    let p = c.requires in
    (p.0, (subst (λ (t : List ℕ). Tested x.s.now x.z x.k.instances x.k.chosen x.k.parties x.witness.now x.y.now x.message.now t x.buffer.now) (sym c.salt_in-own.ensures) p.1.0, rows_grown (circuit_of x.s.now) x.k.instances x.k.chosen x.k.parties c.salt_in-own.result x.witness.now (statement_of c.salt_in-own.result x.k.instances x.k.chosen x.k.parties x.s.now x.y.now x.message.now) x.root.now _ p.1.1 (front-back 16384 (16 * c.row_count-len.result) c.grow.new.nodes (omega (arith, c.row_count-len.ensures.1)) c.grow.auto.nodes ∙ c.grow.ensures ∙ ap (λ (t : Context). nodes_of (child_of t) x.root.now c.height.result) c.masters_tree.ensures ∙ ap (nodes_of (child_of (masters_context c.salt_in-own.result)) x.root.now) c.height.ensures)))

pub returns : goal.returns
returns c =
    let x = c.args in
    let e = proof-grown (circuit_of x.s.now) x.k.instances x.k.chosen x.k.parties c.salt_in-own.result x.witness.now (statement_of c.salt_in-own.result x.k.instances x.k.chosen x.k.parties x.s.now x.y.now x.message.now) x.root.now _ c.requires.1.1 (front-back 16384 (16 * c.row_count-len.result) c.grow.new.nodes (omega (arith, c.row_count-len.ensures.1)) c.grow.auto.nodes ∙ c.grow.ensures ∙ ap (λ (t : Context). nodes_of (child_of t) x.root.now c.height.result) c.masters_tree.ensures ∙ ap (nodes_of (child_of (masters_context c.salt_in-own.result)) x.root.now) c.height.ensures)
    ∙ ap (λ (t : List ℕ). proof_of (circuit_of x.s.now) x.k.instances x.k.chosen x.k.parties t x.witness.now (statement_of t x.k.instances x.k.chosen x.k.parties x.s.now x.y.now x.message.now) x.root.now) c.salt_in-own.ensures in record {
      value = c.prove_from.ensures.value ∙ ap length e;
      buffer_after = c.prove_from.ensures.buffer_after ∙ ap (λ (t : List ℕ). t ++ drop c.prove_from.result x.buffer.now) e;
    }

pub salt_in-own-requires : goal.salt_in-own-requires
salt_in-own-requires c = c.requires.1.0.salt_size
