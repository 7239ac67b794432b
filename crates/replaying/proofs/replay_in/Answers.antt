-- `replaying::replay_in` meets its contract.
-- Assumes nothing.
use mathlib.Core.Path.{refl, sym, ◌∙◌}
use lib.ListN.{drop, replicate}
use Rattle.mpc.proofs.Places.{output-room, output-size, memory-held, placed, working-kept}
use Rattle.replaying.proofs.Replayed.{prefix-inside, prefix-taken, prefix_same, given-good, given-not, replayed-right}
use Rattle.replaying.proofs.replay_in.Goals as goal

pub hold-requires : goal.hold-requires
hold-requires c =
    let p = c.requires in
    (placed c.args.s.now _ _ p.0 _ p.1.0, (p.1.1.1.0.tapes_fit, p.1.1.1.0.corrections_fit))

pub slice_bounds-part-end : goal.slice_bounds-part-end
slice_bounds-part-end c = output-room c.args.s.now c.args.z c.requires.0 _ c.oct-size.ensures

pub slice_bounds-replay_held-end : goal.slice_bounds-replay_held-end
slice_bounds-replay_held-end c = sym (output-size c.args.s.now c.args.z c.requires.0 _ c.oct-size.ensures)

pub replay_held-requires : goal.replay_held-requires
replay_held-requires c =
    let p = c.requires in
    let w = working-kept _ _ c.args.memory.now _ c.hold.auto.memory p.1.0 in
    let f = p.1.1.1.0 in
    (memory-held c.args.s.now _ _ p.0 _ w, (p.1.1.0, (f.masked_fit, (f.row_fits, output-size c.args.s.now c.args.z p.0 _ c.oct-size.ensures ∙ c.oct-size.ensures))))

pub slice_bounds-part-end-2 : goal.slice_bounds-part-end-2
slice_bounds-part-end-2 c =
    prefix-inside c.oct-size.result c.replay_held.new.y (drop c.oct-size.result (replicate 32 0)) (c.replay_held.auto.y ∙ output-size c.args.s.now c.args.z c.requires.0 _ c.oct-size.ensures)

pub slice_bounds-same-end : goal.slice_bounds-same-end
slice_bounds-same-end c =
    prefix-taken c.oct-size.result c.replay_held.new.y (drop c.oct-size.result (replicate 32 0)) (c.replay_held.auto.y ∙ output-size c.args.s.now c.args.z c.requires.0 _ c.oct-size.ensures)

pub give_rows-requires : goal.give_rows-requires
give_rows-requires c =
    let p = c.requires in
    let w = working-kept _ _ c.args.memory.now _ (c.replay_held.auto.memory ∙ c.hold.auto.memory) p.1.0 in
    let h = memory-held c.args.s.now _ _ p.0 _ w in
    (h.room, (h.few, p.1.1.1.1))

pub returns-then-same : goal.returns-then-same
returns-then-same c =
    let x = c.args in
    let p = c.requires in
    let f = p.1.1.1.0 in
    let e =
    prefix_same c.oct-size.result c.replay_held.new.y (drop c.oct-size.result (replicate 32 0)) (c.replay_held.auto.y ∙ output-size x.s.now x.z p.0 _ c.oct-size.ensures) x.y.now _ _ refl c.same-same.ensures in
    replayed-right x.s.now x.z x.n x.p x.tapes.now x.corrections.now x.masked.now x.row.now x.memory.now p.0 p.1.0 p.1.1.0 f.tapes_fit f.corrections_fit _ _ _ x.y.now _ x.rows.now _
    c.hold.ensures c.replay_held.ensures.y_after e c.replay_held.ensures.memory_after (given-good c.same-same.result _ _ (search (c.if-same.true)) _ (cc))

pub returns-else-same : goal.returns-else-same
returns-else-same c =
    let x = c.args in
    let p = c.requires in
    let f = p.1.1.1.0 in
    let e =
    prefix_same c.oct-size.result c.replay_held.new.y (drop c.oct-size.result (replicate 32 0)) (c.replay_held.auto.y ∙ output-size x.s.now x.z p.0 _ c.oct-size.ensures) x.y.now _ _ refl c.same-same.ensures in
    replayed-right x.s.now x.z x.n x.p x.tapes.now x.corrections.now x.masked.now x.row.now x.memory.now p.0 p.1.0 p.1.1.0 f.tapes_fit f.corrections_fit _ _ _ x.y.now _ x.rows.now _
    c.hold.ensures c.replay_held.ensures.y_after e c.replay_held.ensures.memory_after (given-not c.same-same.result _ _ (search (c.if-same.false)))
