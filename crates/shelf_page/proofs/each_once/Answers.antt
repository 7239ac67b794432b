-- `shelf_page::each_once` meets its contract. The loop's invariant: the slots below k were counted once.
-- Assumes nothing.
use mathlib.Core.Path.{◌≡◌, sym, ap, ◌∙◌}
use mathlib.Core.Logic.{⊎_elim}
use Prim.Native.Nat.{ℕ, ◌+◌, ◌-◌, ◌≤◌, ◌<◌}
use native.Mathlib.Omega.{arith}
use lib.ListN.{get_or}
use Rattle.bits.proofs.Numbers.{lt-or-le}
use Rattle.shelf_page.specs.Page.{all_one}
use Rattle.shelf_page.proofs.Walks.{all_one-zero, all_one-miss, all_one-more}
use Rattle.shelf_page.proofs.each_once.Goals as goal

pub loop-k-init : goal.loop-k-init
loop-k-init c =
    let x = c.args in
    all_one-zero (λ (j : ℕ). get_or x.seen.now j 0)

pub returns-then-seen-k-ne1 : goal.returns-then-seen-k-ne1
returns-then-seen-k-ne1 c =
    let x = c.args in
    let l = c.loop-k in
    let f : ℕ → ℕ = λ (j : ℕ). get_or x.seen.now j 0 in
    sym (all_one-miss f l.k x.size (omega arith) (omega arith) c.if-seen-k-ne1.true)

pub loop-k-preserved : goal.loop-k-preserved
loop-k-preserved c =
    let x = c.args in
    let l = c.loop-k in
    let f : ℕ → ℕ = λ (j : ℕ). get_or x.seen.now j 0 in
    let e : l.k + 1 - 1 ≡ l.k = omega arith in
    ap (all_one f) e ∙ all_one-more f l.k (omega arith) c.if-seen-k-ne1.false ∙ l.invariant

pub returns-else-seen-k-ne1 : goal.returns-else-seen-k-ne1
returns-else-seen-k-ne1 c =
    let x = c.args in
    let l = c.loop-k in
    let f : ℕ → ℕ = λ (j : ℕ). get_or x.seen.now j 0 in
    let e : l.k ≡ x.size = omega arith in
    sym (sym (ap (all_one f) e) ∙ all_one-more f l.k (omega arith) c.if-seen-k-ne1.false ∙ l.invariant)

pub returns : goal.returns
returns c =
    let x = c.args in
    let l = c.loop-k in
    let f : ℕ → ℕ = λ (j : ℕ). get_or x.seen.now j 0 in
    let e : x.size ≡ 0 = ⊎_elim (λ (h : x.size < 1). omega arith) (λ (h : 1 ≤ x.size). absurd (omega (arith, l.auto.k-end h))) (lt-or-le x.size 1) in
    sym (ap (all_one f) e ∙ all_one-zero f)
