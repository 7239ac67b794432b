-- `mpc::running::run_lent` meets its contract.
-- Assumes nothing.
use mathlib.Core.Path.{refl}
use Rattle.parties.proofs.Counts.{some_height, no_height}
use Rattle.mpc.proofs.Opened.{counted}
use Rattle.mpc.proofs.Asks.{ands-few}
use Rattle.mpc.proofs.Ran.{run-parties, run_length, run-unused, run-done, run-lent-fits}
use Rattle.mpc.proofs.running.run_lent.Goals as goal

pub returns-then-is_none : goal.returns-then-is_none
returns-then-is_none c = run-parties _ _ _ _ _ c.requires.0 _ _ _ _ _ _ _ _ refl (no_height _ _ _ c.height.ensures c.is_none.ensures c.if-is_none.true)

pub run_lengths-requires : goal.run_lengths-requires
run_lengths-requires c =
    let p = c.requires.0 in
    ((counted _ _ refl (some_height _ _ _ c.height.ensures c.is_none.ensures c.if-is_none.false)).few, (p.legal.laid.few_inputs, (p.legal.laid.few_outputs, ands-few _ _ _ _ _ p)))

pub returns-then-not-run_lengths : goal.returns-then-not-run_lengths
returns-then-not-run_lengths c = run_length _ _ _ _ _ c.requires.0 _ _ _ _ _ _ _ _ refl (some_height _ _ _ c.height.ensures c.is_none.ensures c.if-is_none.false) _ c.run_lengths.ensures c.if-not-run_lengths.true-raw

pub unused_rows-requires : goal.unused_rows-requires
unused_rows-requires c = (c.requires.0, (counted _ _ refl (some_height _ _ _ c.height.ensures c.is_none.ensures c.if-is_none.false)).few)

pub returns-then-not-clean : goal.returns-then-not-clean
returns-then-not-clean c =
    run-unused _ _ _ _ _ c.requires.0 _ _ _ _ _ _ _ _ refl (some_height _ _ _ c.height.ensures c.is_none.ensures c.if-is_none.false) _ c.run_lengths.ensures c.if-not-run_lengths.false-raw
    _ _ _ c.unused_zero.ensures c.unused_rows.ensures c.unused_zero-2.ensures c.if-not-clean.true-raw

pub run_in-requires : goal.run_in-requires
run_in-requires c =
    let x = c.args in
    let l = run-lent-fits _ _ _ _ _ c.requires.0 _ _ x.witness.now _ _ _ _ _ refl (some_height _ _ _ c.height.ensures c.is_none.ensures c.if-is_none.false) _ c.run_lengths.ensures c.if-not-run_lengths.false-raw in
    (c.requires.0, (record { parties = counted _ _ refl (some_height _ _ _ c.height.ensures c.is_none.ensures c.if-is_none.false); room = c.requires.1 }, l))

pub returns : goal.returns
returns c =
    run-done _ _ _ _ _ c.requires.0 _ _ _ _ _ _ _ _ refl (some_height _ _ _ c.height.ensures c.is_none.ensures c.if-is_none.false) _ c.run_lengths.ensures c.if-not-run_lengths.false-raw
    _ _ _ c.unused_zero.ensures c.unused_rows.ensures c.unused_zero-2.ensures c.if-not-clean.false-raw _ _ _ c.run_in.ensures
