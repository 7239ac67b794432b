-- `instance::committing::commit_first` meets its contract.
-- Assumes nothing.
use mathlib.Core.Path.{refl, ap, ◌∙◌}
use mathlib.Core.List.{List, [], flatten}
use native.Mathlib.Omega.{arith}
use Prim.Native.Nat.{ℕ, ◌-◌}
use Rattle.bits.specs.Bits.{tabulate}
use Rattle.hashing.specs.Inputs.{commitments_input}
use Rattle.hashing.specs.Digest.{taken}
use Rattle.derivation.specs.Steps.{commitment_but}
use Rattle.instance.specs.Steps.{seeds_held}
use Rattle.instance.proofs.Rooms.{room-low, seeds-inside, seeds-size}
use Rattle.instance.proofs.Sent.{seeds-part}
use Rattle.instance.proofs.Committed.{first_taken}
use Rattle.instance.proofs.committing.commit_first.Goals as goal

pub layout-l-requires : goal.layout-l-requires
layout-l-requires c = c.requires.0.few_wires

pub seeds_at-seeds-requires : goal.seeds_at-seeds-requires
seeds_at-seeds-requires c = (room-low _ _ c.requires.0 _ c.layout-l.ensures).0

pub overflow_cast-n : goal.overflow_cast-n
overflow_cast-n c = omega (arith, c.requires.1.few)

pub seeds_end-end-requires : goal.seeds_end-end-requires
seeds_end-end-requires c = ((room-low _ _ c.requires.0 _ c.layout-l.ensures).0, c.requires.1.few)

pub slice_bounds-take_first-end : goal.slice_bounds-take_first-end
slice_bounds-take_first-end c = refl

pub slice_bounds-take_first-count : goal.slice_bounds-take_first-count
slice_bounds-take_first-count c = (seeds-inside _ _ _ c.layout-l.ensures c.args.memory.now c.requires.1 _ _ c.seeds_at-seeds.ensures c.seeds_end-end.ensures).0

pub slice_bounds-take_first-start : goal.slice_bounds-take_first-start
slice_bounds-take_first-start c = (seeds-inside _ _ _ c.layout-l.ensures c.args.memory.now c.requires.1 _ _ c.seeds_at-seeds.ensures c.seeds_end-end.ensures).0

pub slice_bounds-take_first-end-2 : goal.slice_bounds-take_first-end-2
slice_bounds-take_first-end-2 c = (seeds-inside _ _ _ c.layout-l.ensures c.args.memory.now c.requires.1 _ _ c.seeds_at-seeds.ensures c.seeds_end-end.ensures).1

pub take_first-requires : goal.take_first-requires
take_first-requires c =
    let o = c in
    (o.requires.1.some, (o.requires.1.few, seeds-size _ _ _ c.layout-l.ensures o.args.memory.now o.requires.1 _ _ c.seeds_at-seeds.ensures c.seeds_end-end.ensures))

pub returns : goal.returns
returns c =
    let x = c.args in
    let j = x.inst.context in
    let n = x.inst.parties in
    let m = x.memory.now in
    first_taken j n [] (seeds_held x.z n m) _
    (c.take_first.ensures
    ∙ ap (λ (t : List ℕ). taken (commitments_input j.number (flatten (tabulate (n - 1) (commitment_but j n n [] t [])))))
    (seeds-part x.z n _ c.layout-l.ensures m _ _ c.seeds_at-seeds.ensures c.seeds_end-end.ensures))
