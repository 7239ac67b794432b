-- `instance::checking::reopen` meets its contract.
-- Assumes nothing.
use mathlib.Core.Path.{◌∙◌}
use native.Mathlib.Omega.{arith}
use Rattle.instance.proofs.Rooms.{few-parties, lent-kept, lent-end, lent-seeded, lent-planes, lent-wires, places-low, lent-masks, seed-length}
use Rattle.instance.proofs.Committed.{first-room}
use Rattle.instance.proofs.Sent.{corrections-made, commitments-made}
use Rattle.instance.proofs.checking.reopen.Goals as goal

pub layout-l-requires : goal.layout-l-requires
layout-l-requires c = lent-wires _ _ _ _ _ c.requires.0

pub corrections_at-at-requires : goal.corrections_at-at-requires
corrections_at-at-requires c = places-low _ _ _ _ _ c.requires.0 _ c.layout-l.ensures

pub rows_at-rows-requires : goal.rows_at-rows-requires
rows_at-rows-requires c = places-low _ _ _ _ _ c.requires.0 _ c.layout-l.ensures

pub hold_parties-requires : goal.hold_parties-requires
hold_parties-requires c = c.requires

pub commit_first-first-requires : goal.commit_first-first-requires
commit_first-first-requires c = let k = lent-kept _ _ _ _ _ c.requires.0 c.hold_parties.new.memory c.hold_parties.auto.memory in (lent-planes _ _ _ _ _ k, lent-seeded _ _ _ _ _ k)

pub overflow_sub-n : goal.overflow_sub-n
overflow_sub-n c = omega (arith, (lent-seeded _ _ _ _ _ c.requires.0).some)

pub seed_of-last-requires : goal.seed_of-last-requires
seed_of-last-requires c = let k = lent-kept _ _ _ _ _ c.requires.0 c.hold_parties.new.memory c.hold_parties.auto.memory in (lent-planes _ _ _ _ _ k, (lent-seeded _ _ _ _ _ k, omega (arith, (lent-seeded _ _ _ _ _ k).some)))

pub overflow_cast-n : goal.overflow_cast-n
overflow_cast-n c = omega (arith, few-parties _ _ _ _ _ c.requires.0)

pub make_corrections-requires : goal.make_corrections-requires
make_corrections-requires c = lent-masks _ _ _ _ _ (lent-kept _ _ _ _ _ c.requires.0 c.hold_parties.new.memory c.hold_parties.auto.memory) _ c.layout-l.ensures _ _ c.rows_at-rows.ensures c.corrections_at-at.ensures

pub commit_last-requires : goal.commit_last-requires
commit_last-requires c =
    let k = lent-kept _ _ _ _ _ c.requires.0 c.hold_parties.new.memory c.hold_parties.auto.memory in
    let v = lent-kept _ _ _ _ _ c.requires.0 c.make_corrections.new.memory (c.make_corrections.auto.memory ∙ c.hold_parties.auto.memory) in
    let seeded = lent-seeded _ _ _ _ _ k in
    (lent-planes _ _ _ _ _ v, (lent-end _ _ _ _ _ v, (seeded.some, (seeded.few, (first-room _ _ _ _ c.commit_first-first.ensures, seed-length _ _ _ _ _ seeded (omega (arith, seeded.some)) c.seed_of-last.ensures)))))

pub returns : goal.returns
returns c =
    let x = c.args in
    let k = lent-kept _ _ _ _ _ c.requires.0 c.hold_parties.new.memory c.hold_parties.auto.memory in
    let some = (lent-seeded _ _ _ _ _ k).some in
    let made = corrections-made _ _ _ _ _ k _ c.layout-l.ensures _ _ c.rows_at-rows.ensures c.corrections_at-at.ensures _ c.make_corrections.ensures _ _ c.hold_parties.ensures.memory_after_2 in
    commitments-made x.s.now x.z x.inst.parties x.inst.context x.master.now c.hold_parties.new.memory c.make_corrections.new.memory c.seed_of-last.result c.commit_last.result c.commit_first-first.result some c.hold_parties.ensures.memory_after made c.commit_first-first.ensures c.seed_of-last.ensures c.commit_last.ensures
