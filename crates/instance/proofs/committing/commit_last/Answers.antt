-- `instance::committing::commit_last` meets its contract.
-- Assumes nothing.
use mathlib.Core.Path.{refl, sym, ap, ◌∙◌}
use mathlib.Core.List.{List}
use native.Mathlib.Omega.{arith}
use Prim.Native.Nat.{ℕ, ◌-◌}
use Rattle.keccak.specs.Steps.{absorbs}
use Rattle.keccak.proofs.Steps.{absorbs-room}
use Rattle.hashing.specs.Digest.{given}
use Rattle.party.specs.Derive.{commitment_to}
use Rattle.instance.proofs.Rooms.{room-low, corrections-inside}
use Rattle.instance.proofs.Sent.{corrections-part}
use Rattle.instance.proofs.Committed.{digest-length}
use Rattle.instance.proofs.committing.commit_last.Goals as goal

pub layout-l-requires : goal.layout-l-requires
layout-l-requires c = c.requires.0.few_wires

pub corrections_at-at-requires : goal.corrections_at-at-requires
corrections_at-at-requires c = room-low _ _ c.requires.0 _ c.layout-l.ensures

pub rows_at-rows-requires : goal.rows_at-rows-requires
rows_at-rows-requires c = room-low _ _ c.requires.0 _ c.layout-l.ensures

pub overflow_sub-n : goal.overflow_sub-n
overflow_sub-n c = omega (arith, c.requires.1.1.0)

pub slice_bounds-commit_row-count : goal.slice_bounds-commit_row-count
slice_bounds-commit_row-count c = (corrections-inside _ c.args.inst.parties _ c.layout-l.ensures c.args.memory.now c.requires.1.0 _ _ c.corrections_at-at.ensures c.rows_at-rows.ensures).0

pub slice_bounds-commit_row-start : goal.slice_bounds-commit_row-start
slice_bounds-commit_row-start c = (corrections-inside _ c.args.inst.parties _ c.layout-l.ensures c.args.memory.now c.requires.1.0 _ _ c.corrections_at-at.ensures c.rows_at-rows.ensures).0

pub slice_bounds-commit_row-end : goal.slice_bounds-commit_row-end
slice_bounds-commit_row-end c = (corrections-inside _ c.args.inst.parties _ c.layout-l.ensures c.args.memory.now c.requires.1.0 _ _ c.corrections_at-at.ensures c.rows_at-rows.ensures).1

pub commit_row-com-requires : goal.commit_row-com-requires
commit_row-com-requires c = (omega (arith, c.requires.1.1.1.0), c.requires.1.1.1.1.1)

pub slice_bounds-absorb-end : goal.slice_bounds-absorb-end
slice_bounds-absorb-end c = sym (digest-length _ _ c.commit_row-com.ensures)

pub absorb-requires : goal.absorb-requires
absorb-requires c = (omega arith, (refl, c.requires.1.1.1.1.0))

pub finish-requires : goal.finish-requires
finish-requires c = rw c.absorb.ensures (absorbs-room 136 (omega arith) _ _ c.requires.1.1.1.1.0)

pub returns : goal.returns
returns c =
    let x = c.args in
    let j = x.inst.context in
    let n = x.inst.parties in
    let own = c.commit_row-com.ensures ∙ ap (commitment_to j n (n - 1) x.last.now) (corrections-part x.z n _ c.layout-l.ensures x.memory.now _ _ c.corrections_at-at.ensures c.rows_at-rows.ensures) in
    c.finish.ensures ∙ (ap given c.absorb.ensures ∙ ap (λ (t : List ℕ). given (absorbs 136 x.first t)) own)
