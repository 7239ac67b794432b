-- `words::transpose::scatter` meets its contract. The invariant: i bytes are stored.
-- Assumes nothing.
use Rattle.words.specs.Steps.{scattered}
use Rattle.words.proofs.Turns.{place-within, scatter-none, scatter-turn, times_eight}
use native.Mathlib.Omega.{arith}
use mathlib.Core.Path.{◌≡◌, sym, ap, ◌∙◌}
use Prim.Native.Nat.{ℕ}
use Rattle.words.proofs.transpose.scatter.Goals as goal

pub scatter8-requires : goal.scatter8-requires
scatter8-requires c =
    let x = c.args in
    omega (arith, times_eight x.n x.step (omega arith))

pub returns-then-n-eq8 : goal.returns-then-n-eq8
returns-then-n-eq8 c =
    let r = c in
    let x = r.args in
    let e : x.n ≡ 8 = omega arith in
    r.scatter8.ensures ∙ ap (λ (k : ℕ). scattered k x.x x.j x.step x.memory.now) (sym e)

pub loop-i-init : goal.loop-i-init
loop-i-init c = scatter-none _ _ _ _

pub overflow_mul-memory-in-loop-i : goal.overflow_mul-memory-in-loop-i
overflow_mul-memory-in-loop-i c =
    let x = c.args in
    omega (arith, place-within c.loop-i.i x.n x.step (omega arith))

pub overflow_add-memory : goal.overflow_add-memory
overflow_add-memory c =
    let x = c.args in
    omega (arith, place-within c.loop-i.i x.n x.step (omega arith))

pub bounds-memory-j : goal.bounds-memory-j
bounds-memory-j c =
    let x = c.args in
    omega (arith, place-within c.loop-i.i x.n x.step (omega arith))

pub loop-i-preserved : goal.loop-i-preserved
loop-i-preserved c =
    scatter-turn _ _ _ _ _ _ c.loop-i.invariant

pub returns : goal.returns
returns c =
    let x = c.args in
    let e : c.loop-i.i ≡ x.n = omega arith in
    c.loop-i.invariant ∙ ap (λ (k : ℕ). scattered k x.x x.j x.step x.memory.now) e
