-- `shelf_page::blanks` meets its contract. The loop's invariant: what remains of the chain is ended, and its test is the whole chain's.
-- Assumes nothing.
use mathlib.Core.Logic.{◌≢◌}
use mathlib.Core.Bool.{true, false}
use mathlib.Core.Path.{◌≡◌, refl, sym, ap, ◌∙◌}
use Prim.Native.Nat.{ℕ, ◌+◌, ◌-◌, ◌≤◌, ◌<◌}
use native.Mathlib.Omega.{arith}
use Rattle.shelf_page.specs.Page.{next_of, chain, ended, blank}
use Rattle.shelf_page.proofs.Walks.{next-read, root-test, blank-slot, blank-not, blank-end, blank-none, ended-slot, ended-room}
use Rattle.shelf_page.proofs.blanks.Goals as goal
use Rattle.shelf_page.proofs.blanks.Goals.{Else-slot-eq0}

-- a slot is left, and it is one of the page's
room : (c : Else-slot-eq0) → (0 < c.args.size - c.loop-turn._turn) × (c.loop-turn.slot ≤ c.args.size)
room c = ended-room _ _ _ _ c.if-slot-eq0.false c.loop-turn.invariant.0

pub loop-turn-init : goal.loop-turn-init
loop-turn-init c =
    let x = c.args in
    let f = next_of x.page.now in
    let e : x.size - 0 ≡ x.size = omega arith in
    (ap (λ (n : ℕ). ended f x.size n x.head) e ∙ c.requires.1.1, (ap (λ (n : ℕ). blank x.page.now (chain f n x.head)) e, refl))

pub slot_at-at-requires : goal.slot_at-at-requires
slot_at-at-requires c = omega (arith, room c)

pub overflow_add-from : goal.overflow_add-from
overflow_add-from c = omega (arith, room (goal.at.overflow_add-from c).Else-slot-eq0)

pub overflow_add-to : goal.overflow_add-to
overflow_add-to c = omega (arith, room (goal.at.overflow_add-to c).Else-slot-eq0)

pub slice_bounds-same-end : goal.slice_bounds-same-end
slice_bounds-same-end c = omega (arith, room (goal.at.slice_bounds-same-end c).Else-slot-eq0)

pub returns-then-not-same : goal.returns-then-not-same
returns-then-not-same c =
    let x = c.args in
    let l = c.loop-turn in
    sym (sym l.invariant.1.0 ∙ blank-not x.page.now (x.size - l._turn) l.slot c.if-slot-eq0.false (room (goal.at.returns-then-not-same c).Else-slot-eq0).0 (root-test x.page.now l.slot _ _ false c.slot_at-at.ensures c.same.ensures c.if-not-same.true))

pub read_u16-slot-requires : goal.read_u16-slot-requires
read_u16-slot-requires c = omega (arith, room (goal.at.read_u16-slot-requires c).Else-slot-eq0)

pub returns-then-slot-eq0 : goal.returns-then-slot-eq0
returns-then-slot-eq0 c =
    let x = c.args in
    let l = c.loop-turn in
    sym (blank-end x.page.now (x.size - l._turn) l.slot c.if-slot-eq0.true) ∙ l.invariant.1.0

pub loop-turn-preserved : goal.loop-turn-preserved
loop-turn-preserved c =
    let x = c.args in
    let l = c.loop-turn in
    let f = next_of x.page.now in
    let left : ℕ = x.size - l._turn in
    let z : l.slot ≢ 0 = c.if-slot-eq0.false in
    let m = room (goal.at.loop-turn-preserved c).Else-slot-eq0 in
    let d : x.size - (l._turn + 1) ≡ x.size - l._turn - 1 = omega arith in
    let v : c.read_u16-slot.result ≡ f l.slot = next-read x.page.now l.slot _ _ c.slot_at-at.ensures c.read_u16-slot.ensures in (
      ap (λ (n : ℕ). ended f x.size n c.read_u16-slot.result) d ∙ ap (ended f x.size (left - 1)) v ∙ sym (ended-slot f x.size left l.slot z m.1 m.0) ∙ l.invariant.0,
      (
        ap (λ (n : ℕ). blank x.page.now (chain f n c.read_u16-slot.result)) d
            ∙ ap (λ (r : ℕ). blank x.page.now (chain f (left - 1) r)) v ∙ sym (blank-slot x.page.now left l.slot z m.0 (root-test x.page.now l.slot _ _ true c.slot_at-at.ensures c.same.ensures c.if-not-same.false)) ∙ l.invariant.1.0,
        refl,
      ),
    )

pub returns : goal.returns
returns c =
    let x = c.args in
    let l = c.loop-turn in
    sym (blank-none x.page.now (x.size - l._turn) l.slot (omega arith)) ∙ l.invariant.1.0
