-- `showing::show_lent` meets its contract.
-- Assumes nothing.
use mathlib.Core.Path.{refl}
use Rattle.parties.proofs.Counts.{some_height, no_height}
use mathlib.Core.Logic.{⊎_elim}
use native.Mathlib.Omega.{arith}
use Rattle.mpc.proofs.Opened.{counted, ands-low}
use Rattle.shown_parts.proofs.Shows.{show-parties, show-party, show-cut, show-length, show-unused, show-done, inputs-tested, parts-tested}
use Rattle.showing.proofs.show_lent.Goals as goal

pub returns-then-is_none : goal.returns-then-is_none
returns-then-is_none c = show-parties _ _ _ _ _ c.requires.0 _ _ _ _ _ _ _ _ _ _ refl (no_height _ _ _ c.height.ensures c.is_none.ensures c.if-is_none.true)

pub returns-then-n-p : goal.returns-then-n-p
returns-then-n-p c =
    ⊎_elim
    (λ e. show-party _ _ _ _ _ c.requires.0 _ _ _ _ _ _ _ _ _ _ refl (some_height _ _ _ c.height.ensures c.is_none.ensures c.if-is_none.false) e)
    (λ e. show-cut _ _ _ _ _ c.requires.0 _ _ _ _ _ _ _ _ _ _ refl (some_height _ _ _ c.height.ensures c.is_none.ensures c.if-is_none.false) e.0 e.1)
    c.then-n-p.either

pub show_lengths-requires : goal.show_lengths-requires
show_lengths-requires c =
    let p = c.requires.0 in
    ((counted _ _ refl (some_height _ _ _ c.height.ensures c.is_none.ensures c.if-is_none.false)).few, (p.legal.laid.few_inputs, (p.legal.laid.few_outputs, omega (arith, ands-low _ _ _ _ _ p, p.legal.laid.few_gates))))

pub returns-then-not-show_lengths : goal.returns-then-not-show_lengths
returns-then-not-show_lengths c = show-length _ _ _ _ _ c.requires.0 _ _ _ _ _ _ _ _ _ _ refl (some_height _ _ _ c.height.ensures c.is_none.ensures c.if-is_none.false) c.if-n-p.false c.if-z-g.false _ c.show_lengths.ensures c.if-not-show_lengths.true-raw

pub unused_rows-requires : goal.unused_rows-requires
unused_rows-requires c = (c.requires.0, (counted _ _ refl (some_height _ _ _ c.height.ensures c.is_none.ensures c.if-is_none.false)).few)

pub returns-then-not-clean : goal.returns-then-not-clean
returns-then-not-clean c =
    show-unused _ _ _ _ _ c.requires.0 _ _ _ _ _ _ _ _ _ _ refl (some_height _ _ _ c.height.ensures c.is_none.ensures c.if-is_none.false) c.if-n-p.false c.if-z-g.false _ c.show_lengths.ensures c.if-not-show_lengths.false-raw
    _ _ c.unused_zero.ensures c.unused_rows.ensures c.if-not-clean.true-raw

pub show_in-requires : goal.show_in-requires
show_in-requires c =
    let x = c.args in (
      c.requires.0,
      (
        record { parties = counted _ _ refl (some_height _ _ _ c.height.ensures c.is_none.ensures c.if-is_none.false); room = c.requires.1 },
        (
          c.if-n-p.false,
          (
            c.if-z-g.false,
            (
              inputs-tested x.z.inputs x.z.outputs x.z.gates x.z.ands x.n x.witness.now x.tapes.now x.blanked.now x.corrections.now x.masked.now x.row.now _ c.show_lengths.ensures c.if-not-show_lengths.false-raw x.s.now c.unused_zero.result _ c.unused_rows.ensures c.if-not-clean.false-raw,
              parts-tested x.z.inputs x.z.outputs x.z.gates x.z.ands x.n x.witness.now x.tapes.now x.blanked.now x.corrections.now x.masked.now x.row.now _ c.show_lengths.ensures c.if-not-show_lengths.false-raw,
            ),
          ),
        ),
      ),
    )

pub returns : goal.returns
returns c =
    show-done _ _ _ _ _ c.requires.0 _ _ _ _ _ _ _ _ _ _ refl (some_height _ _ _ c.height.ensures c.is_none.ensures c.if-is_none.false) c.if-n-p.false c.if-z-g.false _ c.show_lengths.ensures c.if-not-show_lengths.false-raw
    _ _ c.unused_zero.ensures c.unused_rows.ensures c.if-not-clean.false-raw _ c.show_in.ensures
