-- `words::transpose::gather` meets its contract. The invariant: the first i bytes stand one above the other.
-- Assumes nothing.
use Rattle.words.specs.Steps.{at}
use Rattle.words.specs.Steps.{gathered}
use Rattle.words.proofs.Turns.{blocks, gather-blocks, gather_none, gather-turn, place-within, times_eight}
use native.Mathlib.Omega.{arith}
use mathlib.Core.Path.{◌≡◌, refl, sym, ap, ◌∙◌}
use Prim.Native.Nat.{ℕ, ◌+◌, ◌*◌}
use Rattle.words.proofs.transpose.gather.Goals as goal

pub gather8-requires : goal.gather8-requires
gather8-requires c =
    let x = c.args in
    omega (arith, times_eight x.n x.step (omega arith))

pub returns-then-n-eq8 : goal.returns-then-n-eq8
returns-then-n-eq8 c =
    let x = c.args in
    let e : x.n ≡ 8 = omega arith in
    c.gather8.ensures ∙ ap (λ (k : ℕ). gathered k x.s.now x.j x.step) (sym e)

pub loop-i-init : goal.loop-i-init
loop-i-init c = gather_none _

pub overflow_mul-x : goal.overflow_mul-x
overflow_mul-x c =
    let x = c.args in
    omega (arith, place-within c.loop-i.i x.n x.step (omega arith))

pub overflow_add-x : goal.overflow_add-x
overflow_add-x c =
    let x = c.args in
    omega (arith, place-within c.loop-i.i x.n x.step (omega arith))

pub bounds-s-j : goal.bounds-s-j
bounds-s-j c =
    let x = c.args in
    omega (arith, place-within c.loop-i.i x.n x.step (omega arith))

pub loop-i-preserved : goal.loop-i-preserved
loop-i-preserved c =
    let l = c.loop-i in
    let x = c.args in
    gather-turn x.s.now x.j x.step l.i l.x _ (λ k. (c.shared_slice_known-in-loop-i-1.given k).fits) (omega arith) l.invariant refl

pub returns : goal.returns
returns c =
    let x = c.args in
    let e : c.loop-i.i ≡ x.n = omega arith in
    c.loop-i.invariant ∙ ap (blocks 8 (λ k. at x.s.now (x.j + k * x.step))) e
    ∙ gather-blocks x.n x.s.now x.j x.step (λ k. (c.shared_slice_known-1.given k).fits)
