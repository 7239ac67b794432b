-- `blocks::store_column` meets its contract. The invariant: i bytes are stored.
-- Assumes nothing.
use native.Mathlib.Omega.{arith}
use mathlib.Core.Path.{◌≡◌, sym, ap, ◌∙◌}
use Prim.Native.Nat.{ℕ}
use Rattle.blocks.specs.Steps.{stored_column}
use Rattle.words.proofs.Turns.{place-within, times_eight}
use Rattle.blocks.proofs.Columns.{column-none, column-turn}
use Rattle.blocks.proofs.store_column.Goals as goal

pub store_column8-requires : goal.store_column8-requires
store_column8-requires c =
    let x = c.args in
    (omega arith, omega (arith, times_eight x.n x.step (omega arith)))

pub returns-then-n-eq8 : goal.returns-then-n-eq8
returns-then-n-eq8 c =
    let r = c in
    let x = r.args in
    let e : x.n ≡ 8 = omega arith in
    r.store_column8.ensures ∙ ap (λ (k : ℕ). stored_column k x.w x.b x.j x.step x.memory.now) (sym e)

pub loop-i-init : goal.loop-i-init
loop-i-init c = column-none _ _ _ _ _

pub overflow_mul-memory : goal.overflow_mul-memory
overflow_mul-memory c =
    let x = c.args in
    omega (arith, place-within c.loop-i.i x.n x.step (omega arith))

pub overflow_add-memory : goal.overflow_add-memory
overflow_add-memory c =
    let x = c.args in
    omega (arith, place-within c.loop-i.i x.n x.step (omega arith))

pub bounds-memory-j : goal.bounds-memory-j
bounds-memory-j c =
    let x = c.args in
    omega (arith, place-within c.loop-i.i x.n x.step (omega arith))

pub loop-i-preserved : goal.loop-i-preserved
loop-i-preserved c =
    column-turn _ _ _ _ _ _ _ c.loop-i.invariant

pub returns : goal.returns
returns c =
    let x = c.args in
    let e : c.loop-i.i ≡ x.n = omega arith in
    c.loop-i.invariant ∙ ap (λ (k : ℕ). stored_column k x.w x.b x.j x.step x.memory.now) e
