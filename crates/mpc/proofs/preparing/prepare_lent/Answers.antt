-- `mpc::preparing::prepare_lent` meets its contract.
-- Assumes nothing.
use mathlib.Core.Path.{refl}
use Rattle.parties.proofs.Counts.{some_height, no_height}
use Rattle.circuit.proofs.Answered.{held}
use Rattle.mpc.proofs.Opened.{counted}
use Rattle.mpc.proofs.Asks.{ands-few}
use Rattle.mpc.proofs.Tested.{both-lengths}
use Rattle.mpc.proofs.Prepared.{prepare-parties, prepare-length, prepare-unused, prepare-done}
use Rattle.mpc.proofs.preparing.prepare_lent.Goals as goal

pub returns-then-is_none : goal.returns-then-is_none
returns-then-is_none c = prepare-parties _ _ _ _ _ c.requires.0 _ _ _ _ refl (no_height _ _ _ c.height.ensures c.is_none.ensures c.if-is_none.true)

pub prepare_lengths-requires : goal.prepare_lengths-requires
prepare_lengths-requires c =
    let p = c.requires.0 in
    ((counted _ _ refl (some_height _ _ _ c.height.ensures c.is_none.ensures c.if-is_none.false)).few, (p.legal.laid.few_inputs, ands-few _ _ _ _ _ p))

pub returns-then-not-prepare_lengths : goal.returns-then-not-prepare_lengths
returns-then-not-prepare_lengths c = prepare-length _ _ _ _ _ c.requires.0 _ _ _ _ refl (some_height _ _ _ c.height.ensures c.is_none.ensures c.if-is_none.false) _ c.prepare_lengths.ensures c.if-not-prepare_lengths.true-raw

pub unused_rows-requires : goal.unused_rows-requires
unused_rows-requires c = (c.requires.0, (counted _ _ refl (some_height _ _ _ c.height.ensures c.is_none.ensures c.if-is_none.false)).few)

pub returns-then-not-unused_rows : goal.returns-then-not-unused_rows
returns-then-not-unused_rows c =
    prepare-unused _ _ _ _ _ c.requires.0 _ _ _ _ refl (some_height _ _ _ c.height.ensures c.is_none.ensures c.if-is_none.false) _ c.prepare_lengths.ensures c.if-not-prepare_lengths.false-raw
    _ c.unused_rows.ensures c.if-not-unused_rows.true-raw

pub prepare_in-requires : goal.prepare_in-requires
prepare_in-requires c =
    let e = both-lengths _ _ _ _ _ c.prepare_lengths.ensures c.if-not-prepare_lengths.false-raw in (
      c.requires.0,
      (
        record { parties = counted _ _ refl (some_height _ _ _ c.height.ensures c.is_none.ensures c.if-is_none.false); room = c.requires.1 },
        record { tapes_fit = e.0; unused = held _ _ c.unused_rows.ensures c.if-not-unused_rows.false-raw; corrections_fit = e.1 },
      ),
    )

pub returns : goal.returns
returns c =
    prepare-done _ _ _ _ _ c.requires.0 _ _ _ _ refl (some_height _ _ _ c.height.ensures c.is_none.ensures c.if-is_none.false) _ c.prepare_lengths.ensures c.if-not-prepare_lengths.false-raw
    _ c.unused_rows.ensures c.if-not-unused_rows.false-raw _ c.prepare_in.ensures
