-- `shelf::draw` meets its contract: each refusal, and the writes of a draw.
-- Assumes nothing.
use mathlib.Core.Logic.{◌≢◌}
use mathlib.Core.Path.{◌≡◌, sym, ap, ◌∙◌}
use mathlib.Core.Bool.{true}
use native.Mathlib.Omega.{arith}
use borrow.Author.Rules.{rules}
use Rattle.shelf_page.specs.declared.Shelf.{Shelf}
use Rattle.shelf_page.specs.Page.{next_of, sound, root_of, ready_head}
use Rattle.shelf_page.proofs.Walks.{next-read}
use Rattle.shelf_page.proofs.Soundness.{shelf_of, opened, broken, ready-slot, spare-end}
use Rattle.shelf.proofs.Operations.{draw-14, draw-15, draw-16, draw-18, draw-accepted, draw-given, draw-done, root-read}
use Rattle.shelf.proofs.draw.Goals as goal
use Rattle.shelf.proofs.draw.Goals.{In-Some}

-- the page is sound, and the shelf's numbers are the page's
taken-apart : (c : In-Some) → (sound c.args.page.now ≡ true) × (c.in-Some.shelf ≡ shelf_of c.args.page.now)
taken-apart c = opened _ _ (sym c.in-Some.is ∙ c.check.ensures)

pub returns-in_default : goal.returns-in_default
returns-in_default c =
    let x = c.args in
    sym
    (draw-14 x.page.now x.count (broken x.page.now (sym c.in_default.is ∙ c.check.ensures)))

pub returns-then-count-due : goal.returns-then-count-due
returns-then-count-due c =
    let x = c.args in
    let o = taken-apart (goal.at.returns-then-count-due c).In-Some in
    sym
    (draw-15 x.page.now x.count o.0 (λ q. c.if-count-due.true (q ∙ sym (ap (λ (t : Shelf). t.draws) o.1))))

pub returns-then-first-eq0 : goal.returns-then-first-eq0
returns-then-first-eq0 c =
    let x = c.args in
    let o = taken-apart (goal.at.returns-then-first-eq0 c).In-Some in
    sym
    (draw-16 x.page.now x.count o.0 (c.if-count-due.false ∙ ap (λ (t : Shelf). t.draws) o.1) (sym (ap (λ (t : Shelf). t.ready) o.1) ∙ c.if-first-eq0.true))

pub returns-then-draws : goal.returns-then-draws
returns-then-draws c =
    let x = c.args in
    let o = taken-apart (goal.at.returns-then-draws c).In-Some in
    let z : c.in-Some.shelf.ready ≢ 0 = omega arith in
    sym
    (draw-18 x.page.now x.count o.0 (c.if-count-due.false ∙ ap (λ (t : Shelf). t.draws) o.1) (λ q. z (ap (λ (t : Shelf). t.ready) o.1 ∙ q))
    (sym (ap (λ (t : Shelf). t.draws) o.1) ∙ c.if-draws.true))

pub read_u16-next-requires : goal.read_u16-next-requires
read_u16-next-requires c =
    let x = c.args in
    let o = taken-apart (goal.at.read_u16-next-requires c).In-Some in
    omega (arith, c.slot_at-at.ensures, ready-slot x.page.now c.in-Some.shelf o c.if-first-eq0.false)

pub take_root-root-requires : goal.take_root-root-requires
take_root-root-requires c =
    let x = c.args in
    let o = taken-apart (goal.at.take_root-root-requires c).In-Some in
    omega (arith, c.slot_at-at.ensures, ready-slot x.page.now c.in-Some.shelf o c.if-first-eq0.false)

pub move_after-requires : goal.move_after-requires
move_after-requires c =
    let x = c.args in
    let o = taken-apart (goal.at.move_after-requires c).In-Some in
    let m = ready-slot x.page.now c.in-Some.shelf o c.if-first-eq0.false in
    let z : c.in-Some.shelf.ready ≢ 0 = c.if-first-eq0.false in
    let e = spare-end x.page.now c.in-Some.shelf o in
    (omega arith, (omega arith, (m.1, search rules)))

pub write_u32-requires : goal.write_u32-requires
write_u32-requires c =
    let x = c.args in
    let o = taken-apart (goal.at.write_u32-requires c).In-Some in
    omega (arith, c.move_after.auto.page, ready-slot x.page.now c.in-Some.shelf o c.if-first-eq0.false)

pub returns : goal.returns
returns c =
    let x = c.args in
    let o = taken-apart (goal.at.returns c).In-Some in
    let p = x.page.now in
    let z : c.in-Some.shelf.ready ≢ 0 = c.if-first-eq0.false in
    let f : c.read_u16-next.result ≡ next_of p c.in-Some.shelf.ready = next-read p c.in-Some.shelf.ready _ _ c.slot_at-at.ensures c.read_u16-next.ensures in
    let r : c.take_root-root.result ≡ root_of p (ready_head p) = root-read p c.in-Some.shelf _ _ o.1 c.slot_at-at.ensures c.take_root-root.ensures in
    let d = draw-done p c.in-Some.shelf _ _ _ o.1 f c.move_after.ensures c.write_u32.ensures in
    draw-given p x.count _ _ r d
    (draw-accepted p x.count o.0 (c.if-count-due.false ∙ ap (λ (t : Shelf). t.draws) o.1) (λ q. z (ap (λ (t : Shelf). t.ready) o.1 ∙ q))
    (λ q. c.if-draws.false (ap (λ (t : Shelf). t.draws) o.1 ∙ q)))
