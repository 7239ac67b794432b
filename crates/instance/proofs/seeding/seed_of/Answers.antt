-- `instance::seeding::seed_of` meets its contract.
-- Assumes nothing.
use mathlib.Core.Path.{ap, ◌∙◌}
use mathlib.Core.List.{List}
use native.Mathlib.Omega.{arith}
use Prim.Native.Nat.{ℕ, ◌-◌}
use lib.ListN.{length, take, drop, length-replicate}
use Rattle.bits.specs.Bytes.{row_of}
use Rattle.bits.proofs.Rows.{row-length}
use Rattle.instance.proofs.Rooms.{room-low, seeds-inside, seeds-size}
use Rattle.instance.proofs.Sent.{seeds-part}
use Rattle.instance.proofs.seeding.seed_of.Goals as goal

pub layout-l-requires : goal.layout-l-requires
layout-l-requires c = c.requires.0.few_wires

pub seeds_at-seeds-requires : goal.seeds_at-seeds-requires
seeds_at-seeds-requires c = (room-low _ _ c.requires.0 _ c.layout-l.ensures).0

pub seeds_end-end-requires : goal.seeds_end-end-requires
seeds_end-end-requires c = ((room-low _ _ c.requires.0 _ c.layout-l.ensures).0, c.requires.1.0.few)

pub slice_bounds-row-count : goal.slice_bounds-row-count
slice_bounds-row-count c = (seeds-inside _ _ _ c.layout-l.ensures c.args.memory.now c.requires.1.0 _ _ c.seeds_at-seeds.ensures c.seeds_end-end.ensures).0

pub slice_bounds-row-start : goal.slice_bounds-row-start
slice_bounds-row-start c = (seeds-inside _ _ _ c.layout-l.ensures c.args.memory.now c.requires.1.0 _ _ c.seeds_at-seeds.ensures c.seeds_end-end.ensures).0

pub slice_bounds-row-end : goal.slice_bounds-row-end
slice_bounds-row-end c = (seeds-inside _ _ _ c.layout-l.ensures c.args.memory.now c.requires.1.0 _ _ c.seeds_at-seeds.ensures c.seeds_end-end.ensures).1

pub copy-requires : goal.copy-requires
copy-requires c =
    let x = c.args in
    let a = c.seeds_at-seeds.result in
    let size = seeds-size _ _ _ c.layout-l.ensures x.memory.now c.requires.1.0 _ _ c.seeds_at-seeds.ensures c.seeds_end-end.ensures in
    omega (arith, ap length c.row.ensures, row-length (take (c.seeds_end-end.result - a) (drop a x.memory.now)) 32 x.i (omega (arith, size, c.requires.1.1)), length-replicate {A = ℕ} 32 0)

pub returns : goal.returns
returns c =
    let x = c.args in
    c.copy.ensures
    ∙ (c.row.ensures
    ∙ ap (λ (t : List ℕ). row_of t 32 x.i) (seeds-part x.z x.n _ c.layout-l.ensures x.memory.now _ _ c.seeds_at-seeds.ensures c.seeds_end-end.ensures))
