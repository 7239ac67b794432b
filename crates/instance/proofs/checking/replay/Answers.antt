-- `instance::checking::replay` meets its contract.
-- Assumes nothing.
use mathlib.Core.Path.{refl, sym, ◌∙◌}
use Prim.Native.Nat.{ℕ, ◌+◌, ◌*◌}
use native.Mathlib.Omega.{arith}
use lib.ListN.{length-replicate}
use Rattle.bits.proofs.Copies.{prefix-length}
use Rattle.planes.specs.Steps.{corrections_at}
use Rattle.planes.proofs.Fits.{spare-small}
use Rattle.packed.specs.Steps.{broadcast_bytes}
use Rattle.mpc.proofs.Opened.{ands-low}
use Rattle.instance.proofs.Trees.{tree-low}
use Rattle.instance.proofs.Rooms.{few-parties, lent-kept, lent-end, lent-seeded, lent_rows, lent-planes, lent-held, lent-wires, places-low, places-few, place_is, seeds-inside, seeds-size}
use Rattle.instance.proofs.Sent.{few-output, front-inside, front-back, front-taken}
use Rattle.instance.proofs.Checks.{stretch-size, sent-small, part_length, rest-length}
use Rattle.instance.proofs.Replays.{commitments-opened, output-made, rows_made}
use Rattle.instance.proofs.checking.replay.Goals as goal

pub overflow_cast-k : goal.overflow_cast-k
overflow_cast-k c = omega (arith, few-parties _ _ _ _ _ c.requires.0)

pub layout-l-requires : goal.layout-l-requires
layout-l-requires c = lent-wires _ _ _ _ _ c.requires.0

pub corrections_at-at-requires : goal.corrections_at-at-requires
corrections_at-at-requires c = places-low _ _ _ _ _ c.requires.0 _ c.layout-l.ensures

pub seeds_at-seeds-requires : goal.seeds_at-seeds-requires
seeds_at-seeds-requires c = (places-low _ _ _ _ _ c.requires.0 _ c.layout-l.ensures).0

pub seeds_end-last-requires : goal.seeds_end-last-requires
seeds_end-last-requires c = let q = places-few _ _ _ _ _ c.requires.0 _ c.layout-l.ensures in (q.0, q.1.1)

pub sent_bytes-sent-requires : goal.sent_bytes-sent-requires
sent_bytes-sent-requires c =
    let p = c.requires in
    (omega (arith, ands-low _ _ _ _ _ p.0.known, p.0.known.legal.laid.few_gates), p.1.0)

pub overflow_cast-second : goal.overflow_cast-second
overflow_cast-second c = omega (arith, tree-low _ _ c.requires.0.tree)

pub overflow_mul-second : goal.overflow_mul-second
overflow_mul-second c = omega (arith, tree-low _ _ c.requires.0.tree)

pub overflow_add-second : goal.overflow_add-second
overflow_add-second c =
    let p = c.requires in
    omega (arith, tree-low _ _ p.0.tree, sent-small _ _ _ _ _ p.0.known _ _ _ p.0.tree c.args.part.now p.1.1.0 _ c.sent_bytes-sent.ensures, ands-low _ _ _ _ _ p.0.known, p.0.known.legal.laid.few_gates)

pub overflow_add-third : goal.overflow_add-third
overflow_add-third c =
    let p = c.requires in
    omega (arith, tree-low _ _ p.0.tree, sent-small _ _ _ _ _ p.0.known _ _ _ p.0.tree c.args.part.now p.1.1.0 _ c.sent_bytes-sent.ensures, ands-low _ _ _ _ _ p.0.known, p.0.known.legal.laid.few_gates)

pub overflow_add-fourth : goal.overflow_add-fourth
overflow_add-fourth c =
    let p = c.requires in
    omega (arith, tree-low _ _ p.0.tree, sent-small _ _ _ _ _ p.0.known _ _ _ p.0.tree c.args.part.now p.1.1.0 _ c.sent_bytes-sent.ensures, ands-low _ _ _ _ _ p.0.known, p.0.known.legal.laid.few_gates, c.oct.ensures, p.0.known.legal.laid.few_inputs)

pub reopen_parties-requires : goal.reopen_parties-requires
reopen_parties-requires c =
    let p = c.requires in
    (p.0, (p.1.0, p.1.1.0))

pub overflow_add-end : goal.overflow_add-end
overflow_add-end c =
    let p = c.requires in
    let l = places-low _ _ _ _ _ p.0 _ c.layout-l.ensures in
    omega (arith, l, spare-small c.layout-l.result, c.corrections_at-at.ensures, tree-low _ _ p.0.tree, sent-small _ _ _ _ _ p.0.known _ _ _ p.0.tree c.args.part.now p.1.1.0 _ c.sent_bytes-sent.ensures, ands-low _ _ _ _ _ p.0.known, p.0.known.legal.laid.few_gates)

pub slice_bounds-commit-end : goal.slice_bounds-commit-end
slice_bounds-commit-end c =
    let p = c.requires in
    omega (arith, stretch-size _ _ _ _ _ p.0.known _ _ _ p.0.tree c.args.part.now p.1.1.0 _ c.sent_bytes-sent.ensures)

pub slice_bounds-commit-count-2 : goal.slice_bounds-commit-count-2
slice_bounds-commit-count-2 c = (seeds-inside _ _ _ c.layout-l.ensures c.reopen_parties.new.memory (lent-seeded _ _ _ _ _ (lent-kept _ _ _ _ _ c.requires.0 c.reopen_parties.new.memory c.reopen_parties.auto.memory)) _ _ c.seeds_at-seeds.ensures c.seeds_end-last.ensures).0

pub slice_bounds-commit-start-2 : goal.slice_bounds-commit-start-2
slice_bounds-commit-start-2 c = (seeds-inside _ _ _ c.layout-l.ensures c.reopen_parties.new.memory (lent-seeded _ _ _ _ _ (lent-kept _ _ _ _ _ c.requires.0 c.reopen_parties.new.memory c.reopen_parties.auto.memory)) _ _ c.seeds_at-seeds.ensures c.seeds_end-last.ensures).0

pub slice_bounds-commit-end-2 : goal.slice_bounds-commit-end-2
slice_bounds-commit-end-2 c = (seeds-inside _ _ _ c.layout-l.ensures c.reopen_parties.new.memory (lent-seeded _ _ _ _ _ (lent-kept _ _ _ _ _ c.requires.0 c.reopen_parties.new.memory c.reopen_parties.auto.memory)) _ _ c.seeds_at-seeds.ensures c.seeds_end-last.ensures).1

pub slice_bounds-commit-end-3 : goal.slice_bounds-commit-end-3
slice_bounds-commit-end-3 c =
    let p = c.requires in
    let x = c.args in
    omega (arith, sent-small _ _ _ _ _ p.0.known _ _ _ p.0.tree x.part.now p.1.1.0 _ c.sent_bytes-sent.ensures, lent-end _ _ _ _ _ (lent-kept _ _ _ _ _ p.0 c.reopen_parties.new.memory c.reopen_parties.auto.memory), place_is corrections_at x.z c.layout-l.result c.corrections_at-at.result c.layout-l.ensures c.corrections_at-at.ensures)

pub commit-commitments-requires : goal.commit-commitments-requires
commit-commitments-requires c =
    let p = c.requires in
    (few-parties _ _ _ _ _ p.0, seeds-size _ _ _ c.layout-l.ensures c.reopen_parties.new.memory (lent-seeded _ _ _ _ _ (lent-kept _ _ _ _ _ p.0 c.reopen_parties.new.memory c.reopen_parties.auto.memory)) _ _ c.seeds_at-seeds.ensures c.seeds_end-last.ensures)

pub slice_bounds-replay_held-end : goal.slice_bounds-replay_held-end
slice_bounds-replay_held-end c =
    let p = c.requires in
    omega (arith, stretch-size _ _ _ _ _ p.0.known _ _ _ p.0.tree c.args.part.now p.1.1.0 _ c.sent_bytes-sent.ensures, c.oct.ensures)

pub slice_bounds-replay_held-count-2 : goal.slice_bounds-replay_held-count-2
slice_bounds-replay_held-count-2 c =
    let p = c.requires in
    omega (arith, stretch-size _ _ _ _ _ p.0.known _ _ _ p.0.tree c.args.part.now p.1.1.0 _ c.sent_bytes-sent.ensures, c.oct.ensures)

pub slice_bounds-replay_held-start-2 : goal.slice_bounds-replay_held-start-2
slice_bounds-replay_held-start-2 c =
    let p = c.requires in
    omega (arith, stretch-size _ _ _ _ _ p.0.known _ _ _ p.0.tree c.args.part.now p.1.1.0 _ c.sent_bytes-sent.ensures, c.oct.ensures)

pub slice_bounds-out-end : goal.slice_bounds-out-end
slice_bounds-out-end c = omega (arith, length-replicate {A = ℕ} 32 0, few-output _ _ _ c.requires.0.known c.oct-o.ensures)

pub slice_bounds-replay_held-end-3 : goal.slice_bounds-replay_held-end-3
slice_bounds-replay_held-end-3 c = sym (prefix-length _ 32 (few-output _ _ _ c.requires.0.known c.oct-o.ensures))

pub replay_held-requires : goal.replay_held-requires
replay_held-requires c =
    let p = c.requires in
    let x = c.args in
    let l = stretch-size _ _ _ _ _ p.0.known _ _ _ p.0.tree x.part.now p.1.1.0 _ c.sent_bytes-sent.ensures in
    let masked = part_length (16 * x.inst.height + c.sent_bytes-sent.result + 32) c.oct.result _ _ x.part.now (omega (arith, l, c.oct.ensures)) c.oct.ensures refl in
    let row = rest-length ((16 * x.inst.height + c.sent_bytes-sent.result + 32) + c.oct.result) (broadcast_bytes x.z) x.part.now (omega (arith, l, c.oct.ensures)) in
    (lent-held _ _ _ _ _ (lent-kept _ _ _ _ _ p.0 c.reopen_parties.new.memory c.reopen_parties.auto.memory), (p.1.0, (sym masked, (row, prefix-length _ 32 (few-output _ _ _ p.0.known c.oct-o.ensures) ∙ c.oct-o.ensures))))

pub slice_bounds-online-end : goal.slice_bounds-online-end
slice_bounds-online-end c =
    let p = c.requires in
    omega (arith, stretch-size _ _ _ _ _ p.0.known _ _ _ p.0.tree c.args.part.now p.1.1.0 _ c.sent_bytes-sent.ensures, c.oct.ensures)

pub online-online-requires : goal.online-online-requires
online-online-requires c =
    let k = lent-kept _ _ _ _ _ c.requires.0 _ (c.replay_held.auto.memory ∙ c.reopen_parties.auto.memory) in
    (lent-planes _ _ _ _ _ k, (omega (arith, few-parties _ _ _ _ _ k), lent_rows _ _ _ _ _ k))

pub slice_bounds-out-end-2 : goal.slice_bounds-out-end-2
slice_bounds-out-end-2 c = front-inside 32 c.oct-o.result c.replay_held.new.y (few-output _ _ _ c.requires.0.known c.oct-o.ensures) c.replay_held.auto.y

pub slice_bounds-same-end : goal.slice_bounds-same-end
slice_bounds-same-end c = front-taken 32 c.oct-o.result c.replay_held.new.y (few-output _ _ _ c.requires.0.known c.oct-o.ensures) c.replay_held.auto.y

pub shape_of-memory : goal.shape_of-memory
shape_of-memory c = c.online-online.auto.memory ∙ (c.replay_held.auto.memory ∙ c.reopen_parties.auto.memory)

pub returns : goal.returns
returns c =
    let p = c.requires in
    let x = c.args in
    let k = lent-kept _ _ _ _ _ p.0 c.reopen_parties.new.memory c.reopen_parties.auto.memory in (
      output-made _ _ _ _ _ _ _ k p.1.0 x.part.now p.1.1.0 _ c.sent_bytes-sent.ensures c.reopen_parties.ensures.memory_after c.reopen_parties.ensures.memory_after_2 c.reopen_parties.ensures.memory_after_3 _ c.oct.ensures _ _ _ _ (front-back 32 c.oct-o.result c.replay_held.new.y (few-output _ _ _ p.0.known c.oct-o.ensures) c.replay_held.auto.y) c.replay_held.ensures.y_after c.same-agrees.ensures,
      (
        commitments-opened _ _ _ _ _ _ _ k p.1.0 x.part.now p.1.1.0 _ c.sent_bytes-sent.ensures c.reopen_parties.ensures.memory_after c.reopen_parties.ensures.memory_after_2 c.reopen_parties.ensures.memory_after_3 _ _ _ _ _ c.layout-l.ensures c.seeds_at-seeds.ensures c.seeds_end-last.ensures c.corrections_at-at.ensures c.commit-commitments.ensures,
        rows_made _ _ _ _ _ _ _ k p.1.0 x.part.now p.1.1.0 _ c.sent_bytes-sent.ensures c.reopen_parties.ensures.memory_after c.reopen_parties.ensures.memory_after_2 c.reopen_parties.ensures.memory_after_3 _ c.oct.ensures _ _ c.replay_held.ensures.memory_after c.online-online.ensures,
      ),
    )
