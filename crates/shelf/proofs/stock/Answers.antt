-- `shelf::stock` meets its contract: each refusal, and the writes of a stocking.
-- Assumes nothing.
use mathlib.Core.List.{List, [], ◌∷◌}
use mathlib.Core.Logic.{◌≢◌}
use mathlib.Core.Bool.{true}
use mathlib.Core.Path.{◌≡◌, sym, ap, ◌∙◌}
use Prim.Native.Nat.{ℕ}
use native.Mathlib.Omega.{arith}
use Rattle.refusal.specs.Outcome.{done}
use Rattle.shelf_page.specs.declared.Shelf.{Shelf}
use Rattle.shelf_page.specs.Page.{next_of, sound}
use Rattle.shelf_page.proofs.Walks.{next-read}
use Rattle.shelf_page.proofs.Soundness.{shelf_of, opened, broken, spare-slot}
use Rattle.shelf.proofs.Operations.{stock-14, stock-6, stock-17, stock-accepted, stock-done}
use Rattle.shelf.proofs.stock.Goals as goal
use Rattle.shelf.proofs.stock.Goals.{In-Some}

-- the page is sound, and the shelf's numbers are the page's
taken-apart : (c : In-Some) → (sound c.args.page.now ≡ true) × (c.in-Some.shelf ≡ shelf_of c.args.page.now)
taken-apart c = opened _ _ (sym c.in-Some.is ∙ c.check.ensures)

pub returns-in_default : goal.returns-in_default
returns-in_default c =
    let x = c.args in
    sym (stock-14 x.page.now x.root.now (broken x.page.now (sym c.in_default.is ∙ c.check.ensures)))

pub returns-then-root-ne16 : goal.returns-then-root-ne16
returns-then-root-ne16 c =
    let x = c.args in
    let o = taken-apart (goal.at.returns-then-root-ne16 c).In-Some in
    sym (stock-6 x.page.now x.root.now o.0 c.if-root-ne16.true)

pub returns-then-slot-eq0 : goal.returns-then-slot-eq0
returns-then-slot-eq0 c =
    let x = c.args in
    let o = taken-apart (goal.at.returns-then-slot-eq0 c).In-Some in
    sym (stock-17 x.page.now x.root.now o.0 c.if-root-ne16.false (sym (ap (λ (t : Shelf). t.spare) o.1) ∙ c.if-slot-eq0.true))

pub read_u16-next-requires : goal.read_u16-next-requires
read_u16-next-requires c =
    let x = c.args in
    let o = taken-apart (goal.at.read_u16-next-requires c).In-Some in
    omega (arith, c.slot_at.ensures, spare-slot x.page.now c.in-Some.shelf o c.if-slot-eq0.false)

pub put_slot-requires : goal.put_slot-requires
put_slot-requires c =
    let x = c.args in
    let o = taken-apart (goal.at.put_slot-requires c).In-Some in
    let m = spare-slot x.page.now c.in-Some.shelf o c.if-slot-eq0.false in
    let z : c.in-Some.shelf.spare ≢ 0 = c.if-slot-eq0.false in
    ((omega arith, omega arith), (m.1, c.if-root-ne16.false))

pub put_heads-requires : goal.put_heads-requires
put_heads-requires c =
    let x = c.args in
    let o = taken-apart (goal.at.put_heads-requires c).In-Some in
    omega (arith, c.put_slot.auto.page, spare-slot x.page.now c.in-Some.shelf o c.if-slot-eq0.false)

pub returns : goal.returns
returns c =
    let x = c.args in
    let o = taken-apart (goal.at.returns c).In-Some in
    let p = x.page.now in
    let z : c.in-Some.shelf.spare ≢ 0 = c.if-slot-eq0.false in
    let f : c.read_u16-next.result ≡ next_of p c.in-Some.shelf.spare = next-read p c.in-Some.shelf.spare _ _ c.slot_at.ensures c.read_u16-next.ensures in
    sym (stock-accepted p x.root.now o.0 c.if-root-ne16.false (λ q. z (ap (λ (t : Shelf). t.spare) o.1 ∙ q))
    ∙ ap (λ (q : List ℕ). done (q ∷ [])) (sym (stock-done p x.root.now c.in-Some.shelf _ _ _ o.1 f c.put_slot.ensures c.put_heads.ensures)))
