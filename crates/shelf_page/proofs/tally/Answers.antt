-- `shelf_page::tally` meets its contract. The loop's invariant: the counts, with what remains of the chain, are those at entry with the whole chain.
-- Assumes nothing.
use mathlib.Core.Logic.{◌≢◌}
use mathlib.Core.Path.{◌≡◌, sym, ap, ◌∙◌}
use Prim.Native.Nat.{ℕ, ◌+◌, ◌-◌, ◌≤◌, ◌<◌}
use native.Mathlib.Omega.{arith}
use lib.ListN.{get_or, set, length-set}
use Rattle.bits.specs.Counting.{count}
use Rattle.bits.proofs.Counting.{count-le}
use Rattle.shelf_page.specs.Page.{next_of, chain, ended}
use Rattle.shelf_page.proofs.Walks.{tallied-not, tallied-end, tallied-last, next-read, chain_length, tally-turn, ended-slot, ended-above}
use Rattle.shelf_page.proofs.tally.Goals as goal

pub loop-turn-init : goal.loop-turn-init
loop-turn-init c =
    let x = c.args in
    let f = next_of x.page.now in
    let e : x.size - 0 ≡ x.size = omega arith in
    (omega arith, (ap (λ (n : ℕ). ended f x.size n x.head) e, λ k. ap (λ (n : ℕ). get_or x.seen.now k 0 + count k (chain f n x.head)) e))

pub returns-then-slot-eq0 : goal.returns-then-slot-eq0
returns-then-slot-eq0 c =
    let x = c.args in
    let l = c.loop-turn in
    tallied-end x.page.now x.size x.head (x.size - l._turn) l.slot x.seen.now l.seen c.if-slot-eq0.true l.invariant.1.0 l.invariant.1.1

pub returns-then-size-slot : goal.returns-then-size-slot
returns-then-size-slot c =
    let x = c.args in
    let l = c.loop-turn in
    let f = next_of x.page.now in
    tallied-not x.page.now x.size x.head x.seen.now l.seen
    (sym l.invariant.1.0 ∙ ended-above f x.size (x.size - l._turn) l.slot c.if-slot-eq0.false (omega arith))

pub overflow_add-seen : goal.overflow_add-seen
overflow_add-seen c =
    let x = c.args in
    let l = c.loop-turn in
    let m = chain (next_of x.page.now) x.size x.head in
    omega (arith, l.invariant.1.1 l.slot, c.requires.1.1.1 l.slot, count-le l.slot m, chain_length (next_of x.page.now) x.size x.head)

pub loop-turn-preserved : goal.loop-turn-preserved
loop-turn-preserved c =
    let x = c.args in
    let l = c.loop-turn in
    let f = next_of x.page.now in
    let z : l.slot ≢ 0 = c.if-slot-eq0.false in
    let s : l.slot ≤ x.size = omega arith in
    let left : ℕ = x.size - l._turn in
    let n : 0 < x.size - l._turn = omega arith in
    let d : x.size - (l._turn + 1) ≡ x.size - l._turn - 1 = omega arith in
    let v : c.read_u16-slot.result ≡ f l.slot = next-read x.page.now l.slot _ _ c.slot_at.ensures c.read_u16-slot.ensures in (
      length-set l.seen l.slot (get_or l.seen l.slot 0 + 1) ∙ l.invariant.0,
      (
        ap (λ (m : ℕ). ended f x.size m c.read_u16-slot.result) d ∙ ap (ended f x.size (left - 1)) v ∙ sym (ended-slot f x.size left l.slot z s n) ∙ l.invariant.1.0,
        λ k. ap (λ (m : ℕ). get_or (set l.seen l.slot (get_or l.seen l.slot 0 + 1)) k 0 + count k (chain f m c.read_u16-slot.result)) d
            ∙ ap (λ (r : ℕ). get_or (set l.seen l.slot (get_or l.seen l.slot 0 + 1)) k 0 + count k (chain f (left - 1) r)) v
            ∙ tally-turn f l.seen l.slot left k (omega arith) z n ∙ l.invariant.1.1 k,
      ),
    )

pub returns : goal.returns
returns c =
    let x = c.args in
    let l = c.loop-turn in
    tallied-last x.page.now x.size x.head (x.size - l._turn) l.slot x.seen.now l.seen (omega arith) l.invariant.1.0 l.invariant.1.1
