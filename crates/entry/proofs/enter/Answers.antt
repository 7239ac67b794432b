-- `entry::enter` meets its contract.
-- Assumes nothing.
use mathlib.Core.Path.{refl}
use native.Mathlib.Omega.{arith}
use Rattle.circuit.proofs.Answered.{fell, held}
use Rattle.shared.proofs.Slots.{enter-beyond, enter-waiting, enter-outside, enter-short, enter-tested}
use Rattle.entry.proofs.enter.Goals as goal

pub returns-then-caller-gt15 : goal.returns-then-caller-gt15
returns-then-caller-gt15 c =
    let x = c.args in
    enter-beyond x.caller x.places x.buffer.now x.work.now x.s _ _ c.if-caller-gt15.true (refl, refl)

pub returns-then-flags-i : goal.returns-then-flags-i
returns-then-flags-i c =
    let x = c.args in
    enter-waiting x.caller x.places x.buffer.now x.work.now x.s c.if-caller-gt15.false _ _ c.if-flags-i.true (refl, refl)

pub all_inside-requires : goal.all_inside-requires
all_inside-requires c = tt

pub returns-then-not-all_inside : goal.returns-then-not-all_inside
returns-then-not-all_inside c =
    let x = c.args in
    enter-outside x.caller x.places x.buffer.now x.work.now x.s c.if-caller-gt15.false c.if-flags-i.false _ _ (fell _ _ c.all_inside.ensures c.if-not-all_inside.true-raw) (refl, refl)

pub returns-then-work-lt-SHARED_WORK : goal.returns-then-work-lt-SHARED_WORK
returns-then-work-lt-SHARED_WORK c =
    let x = c.args in
    enter-short x.caller x.places x.buffer.now x.work.now x.s c.if-caller-gt15.false c.if-flags-i.false (held _ _ c.all_inside.ensures c.if-not-all_inside.false-raw) _ _ c.if-work-lt-SHARED_WORK.true (refl, refl)

pub enter_at-requires : goal.enter_at-requires
enter_at-requires c = (omega (arith, c.if-caller-gt15.false), held _ _ c.all_inside.ensures c.if-not-all_inside.false-raw)

pub returns : goal.returns
returns c =
    let x = c.args in
    enter-tested x.caller x.places x.buffer.now x.work.now x.s c.if-caller-gt15.false c.if-flags-i.false (held _ _ c.all_inside.ensures c.if-not-all_inside.false-raw) _ _ _ c.if-work-lt-SHARED_WORK.false c.enter_at.ensures.number_value c.enter_at.ensures.work_after
