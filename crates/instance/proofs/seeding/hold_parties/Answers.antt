-- `instance::seeding::hold_parties` meets its contract.
-- Assumes nothing.
use borrow.Rule.Slice.PartMut.{same_len_mid}
use native.Mathlib.Omega.{arith}
use mathlib.Core.Path.{sym, ap, ◌∙◌}
use Prim.Native.Nat.{ℕ, ◌+◌, ◌-◌, ◌*◌}
use Rattle.circuit.specs.File.{circuit_of}
use Rattle.four_sponges.proofs.Rows.{part-size, put-part}
use Rattle.instance.proofs.Seeded.{tree-few, tree-leaves, tree-small, places-room, leaves-fit, seeds-fit, tapes_fit, seeds-are, tapes-are, master-seeds, master-tapes}
use Rattle.instance.proofs.seeding.hold_parties.Goals as goal

pub layout-l-requires : goal.layout-l-requires
layout-l-requires c =
    let k = c.requires.0.known.legal.laid in
    omega (arith, k.few_inputs, k.few_gates)

pub leaves_at-leaves-requires : goal.leaves_at-leaves-requires
leaves_at-leaves-requires c = places-room _ _ _ _ _ c.requires.0 _ c.layout-l.ensures

pub overflow_add-end : goal.overflow_add-end
overflow_add-end c = omega (arith, leaves-fit _ _ _ _ _ c.requires.0 _ c.layout-l.ensures _ c.leaves_at-leaves.ensures)

pub seeds_at-seeds-requires : goal.seeds_at-seeds-requires
seeds_at-seeds-requires c = (places-room _ _ _ _ _ c.requires.0 _ c.layout-l.ensures).0

pub rows_at-rows-requires : goal.rows_at-rows-requires
rows_at-rows-requires c = let r = places-room _ _ _ _ _ c.requires.0 _ c.layout-l.ensures in (r.0, r.1.0)

pub slice_bounds-leaves_below-end : goal.slice_bounds-leaves_below-end
slice_bounds-leaves_below-end c =
    omega (arith, leaves-fit _ _ _ _ _ c.requires.0 _ c.layout-l.ensures _ c.leaves_at-leaves.ensures)

pub leaves_below-requires : goal.leaves_below-requires
leaves_below-requires c =
    let p = c.requires in
    let x = c.args in
    let fit = leaves-fit _ _ _ _ _ p.0 _ c.layout-l.ensures _ c.leaves_at-leaves.ensures in
    let leaves = tree-leaves x.inst.parties x.inst.height p.0.tree in
    let size = part-size c.leaves_at-leaves.result (16 * x.inst.parties) x.memory.now fit in
    (p.1, (size ∙ ap (λ (k : ℕ). 16 * k) (sym leaves), tree-small _ _ p.0.tree))

pub seed_rows-requires : goal.seed_rows-requires
seed_rows-requires c =
    let p = c.requires in
    let x = c.args in
    let leaves = c.leaves_at-leaves.result in (
      tree-few _ _ p.0.tree,
      (
        omega (arith, seeds-fit _ _ _ _ _ p.0 _ c.layout-l.ensures _ _ _ c.leaves_at-leaves.ensures c.seeds_at-seeds.ensures c.rows_at-rows.ensures, tapes_fit _ _ _ _ _ p.0 _ c.layout-l.ensures _ _ _ c.leaves_at-leaves.ensures c.seeds_at-seeds.ensures c.rows_at-rows.ensures),
        omega (arith, leaves-fit _ _ _ _ _ p.0 _ c.layout-l.ensures _ c.leaves_at-leaves.ensures, same_len_mid leaves (leaves + 16 * x.inst.parties - leaves) x.memory.now c.leaves_below.new.out c.leaves_below.auto.out),
      ),
    )

pub tape_rows-requires : goal.tape_rows-requires
tape_rows-requires c =
    let p = c.requires in
    let x = c.args in
    let leaves = c.leaves_at-leaves.result in
    let fit = leaves-fit _ _ _ _ _ p.0 _ c.layout-l.ensures _ c.leaves_at-leaves.ensures in (
      p.0.known,
      (
        tree-few _ _ p.0.tree,
        (
          seeds-fit _ _ _ _ _ p.0 _ c.layout-l.ensures _ _ _ c.leaves_at-leaves.ensures c.seeds_at-seeds.ensures c.rows_at-rows.ensures,
          omega (arith, fit, tapes_fit _ _ _ _ _ p.0 _ c.layout-l.ensures _ _ _ c.leaves_at-leaves.ensures c.seeds_at-seeds.ensures c.rows_at-rows.ensures, c.seed_rows.auto.memory, same_len_mid leaves (leaves + 16 * x.inst.parties - leaves) x.memory.now c.leaves_below.new.out c.leaves_below.auto.out),
        ),
      ),
    )

pub returns : goal.returns
returns c =
    let p = c.requires in
    let x = c.args in
    let leaves = c.leaves_at-leaves.result in
    let fit = leaves-fit _ _ _ _ _ p.0 _ c.layout-l.ensures _ c.leaves_at-leaves.ensures in
    let L = c.leaves_below.new.out in
    let size = c.leaves_below.auto.out ∙ part-size leaves (16 * x.inst.parties) x.memory.now fit in
    let e₁ = put-part leaves (16 * x.inst.parties) x.memory.now L fit size in
    let h = p.0.tree.height in record {
      memory_after = seeds-are _ _ _ _ _ p.0 _ c.layout-l.ensures _ _ _ c.leaves_at-leaves.ensures c.seeds_at-seeds.ensures c.rows_at-rows.ensures x.inst.parties x.inst.context _ _ _ L size e₁ c.seed_rows.ensures c.tape_rows.ensures ∙ master-seeds x.inst.parties x.inst.context x.inst.height x.master.now L h c.leaves_below.ensures;
      memory_after_2 = tapes-are _ _ _ _ _ p.0 _ c.layout-l.ensures _ _ _ c.leaves_at-leaves.ensures c.seeds_at-seeds.ensures c.rows_at-rows.ensures x.inst.parties x.inst.context _ _ _ L size e₁ c.seed_rows.ensures c.tape_rows.ensures ∙ master-tapes x.inst.parties x.inst.context x.inst.height x.master.now L h c.leaves_below.ensures (circuit_of x.s.now);
    }
