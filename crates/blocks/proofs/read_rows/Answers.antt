-- `blocks::read_rows` meets its contract. The invariant: p words are read.
-- Assumes nothing.
use native.Mathlib.Omega.{arith}
use mathlib.Core.Path.{◌≡◌, ap, ◌∙◌}
use Prim.Native.Nat.{ℕ}
use Rattle.blocks.specs.Steps.{row_words}
use Rattle.words.proofs.Turns.{place-within}
use Rattle.blocks.proofs.Columns.{rows_none, rows-turn}
use Rattle.blocks.proofs.read_rows.Goals as goal

pub loop-p-init : goal.loop-p-init
loop-p-init c = rows_none _ _ _

pub overflow_mul-p : goal.overflow_mul-p
overflow_mul-p c =
    let x = c.args in
    omega (arith, place-within c.loop-p.p x.n x.step (omega arith))

pub overflow_add-j : goal.overflow_add-j
overflow_add-j c =
    let x = c.args in
    omega (arith, place-within c.loop-p.p x.n x.step (omega arith))

pub read_u64-requires : goal.read_u64-requires
read_u64-requires c =
    let x = c.args in
    omega (arith, place-within c.loop-p.p x.n x.step (omega arith))

pub loop-p-preserved : goal.loop-p-preserved
loop-p-preserved c = rows-turn _ _ _ _ _ _ c.loop-p.invariant c.read_u64.ensures

pub returns : goal.returns
returns c =
    let x = c.args in
    let e : c.loop-p.p ≡ x.n = omega arith in
    c.loop-p.invariant ∙ ap (λ (k : ℕ). row_words k x.s.now x.j x.step) e
