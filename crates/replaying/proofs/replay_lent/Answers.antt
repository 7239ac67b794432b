-- `replaying::replay_lent` meets its contract.
-- Assumes nothing.
use mathlib.Core.Path.{refl}
use Rattle.parties.proofs.Counts.{some_height, no_height}
use native.Mathlib.Omega.{arith}
use Rattle.mpc.proofs.Opened.{counted, ands-low}
use Rattle.replaying.proofs.Replayed.{lengths-parts, replay-parties, replay-index, replay-length, replay-unused, replay-done, replay-output}
use Rattle.replaying.proofs.replay_lent.Goals as goal

pub returns-then-is_none : goal.returns-then-is_none
returns-then-is_none c =
    let x = c.args in
    replay-parties _ _ _ _ _ c.requires.0 _ _ x.tapes.now x.corrections.now x.masked.now x.row.now _ x.y.now x.rows.now refl
    (no_height _ _ _ c.height.ensures c.is_none.ensures c.if-is_none.true)

pub returns-then-n-p : goal.returns-then-n-p
returns-then-n-p c =
    let x = c.args in
    replay-index _ _ _ _ _ c.requires.0 _ _ x.tapes.now x.corrections.now x.masked.now x.row.now _ x.y.now x.rows.now refl
    (some_height _ _ _ c.height.ensures c.is_none.ensures c.if-is_none.false) c.if-n-p.true

pub replay_lengths-requires : goal.replay_lengths-requires
replay_lengths-requires c =
    let l = c.requires.0.legal.laid in
    ((counted _ _ refl (some_height _ _ _ c.height.ensures c.is_none.ensures c.if-is_none.false)).few, (l.few_inputs, (l.few_outputs, omega (arith, ands-low _ _ _ _ _ c.requires.0, l.few_gates))))

pub returns-then-not-replay_lengths : goal.returns-then-not-replay_lengths
returns-then-not-replay_lengths c =
    let x = c.args in
    replay-length _ _ _ _ _ c.requires.0 _ _ x.tapes.now x.corrections.now x.masked.now x.row.now _ x.y.now x.rows.now refl
    (some_height _ _ _ c.height.ensures c.is_none.ensures c.if-is_none.false) c.if-n-p.false _ c.replay_lengths.ensures c.if-not-replay_lengths.true-raw

pub unused_showing-requires : goal.unused_showing-requires
unused_showing-requires c = (c.requires.0, ((counted _ _ refl (some_height _ _ _ c.height.ensures c.is_none.ensures c.if-is_none.false)).few, c.if-n-p.false))

pub returns-then-not-clean : goal.returns-then-not-clean
returns-then-not-clean c =
    let x = c.args in
    replay-unused _ _ _ _ _ c.requires.0 _ _ x.tapes.now x.corrections.now x.masked.now x.row.now _ x.y.now x.rows.now refl
    (some_height _ _ _ c.height.ensures c.is_none.ensures c.if-is_none.false) c.if-n-p.false _ c.replay_lengths.ensures c.if-not-replay_lengths.false-raw _ _ c.unused_showing.ensures c.unused_zero.ensures c.if-not-clean.true-raw

pub replay_in-good-requires : goal.replay_in-good-requires
replay_in-good-requires c =
    let x = c.args in (
      c.requires.0,
      (
        record { parties = counted _ _ refl (some_height _ _ _ c.height.ensures c.is_none.ensures c.if-is_none.false); room = c.requires.1 },
        (
          c.if-n-p.false,
          lengths-parts x.z.inputs x.z.outputs x.z.gates x.z.ands x.n x.tapes.now x.corrections.now x.masked.now x.row.now x.y.now x.rows.now _ c.replay_lengths.ensures c.if-not-replay_lengths.false-raw,
        ),
      ),
    )

pub returns-then-good : goal.returns-then-good
returns-then-good c =
    let x = c.args in
    replay-done _ _ _ _ _ c.requires.0 _ _ x.tapes.now x.corrections.now x.masked.now x.row.now _ x.y.now x.rows.now refl
    (some_height _ _ _ c.height.ensures c.is_none.ensures c.if-is_none.false) c.if-n-p.false _ c.replay_lengths.ensures c.if-not-replay_lengths.false-raw _ _ c.unused_showing.ensures c.unused_zero.ensures c.if-not-clean.false-raw
    _ c.replay_in-good.new.rows c.replay_in-good.ensures.0 c.replay_in-good.ensures.1 c.if-good.true

pub returns-else-good : goal.returns-else-good
returns-else-good c =
    let x = c.args in
    replay-output _ _ _ _ _ c.requires.0 _ _ x.tapes.now x.corrections.now x.masked.now x.row.now _ x.y.now x.rows.now refl
    (some_height _ _ _ c.height.ensures c.is_none.ensures c.if-is_none.false) c.if-n-p.false _ c.replay_lengths.ensures c.if-not-replay_lengths.false-raw _ _ c.unused_showing.ensures c.unused_zero.ensures c.if-not-clean.false-raw
    _ c.replay_in-good.new.rows c.replay_in-good.ensures.0 c.replay_in-good.ensures.1 c.if-good.false
