-- Rows one after the other, one or four at a time.
-- Assumes nothing.
use native.Mathlib.Omega.{arith}
use mathlib.Core.Path.{◌≡◌, refl, sym, ap, ◌∙◌}
use mathlib.Core.Bool.{Bool, true, false, ◌&&◌, ◌||◌}
use mathlib.Core.List.{List, [], ◌∷◌, ◌++◌, flatten, append-nil, append_assoc}
use Prim.Native.Nat.{ℕ, zero, suc, ◌+◌, ◌≤◌, ◌<◌}
use borrow.Author.Tests.{leb-true, ltb-true}
use lib.Dec.{leb, ltb}
use lib.ListN.{take, drop}
use lib.Seq.{take-take}
use Rattle.bits.specs.Bits.{tabulate}
use Rattle.bits.proofs.Rows.{flatten-more}
use Rattle.bits.proofs.Tests.{and-true-left, and-true-right}
use Rattle.four_sponges.specs.Steps.{four_rows}

-- a part of the first n bytes
pub part-first : (c k n : ℕ) (m : List ℕ) → k + c ≤ n → take c (drop k (take n m)) ≡ take c (drop k m)
part-first c zero n m h = take-take c n m (omega arith)
part-first c (suc k) zero m h = absurd (omega arith)
part-first c (suc k) (suc n) [] h = refl
part-first c (suc k) (suc n) (x ∷ m) h = part-first c k n m (omega arith)

-- rows one after the other, in two parts
pub flatten-add : (a b : ℕ) (f : ℕ → List ℕ) → flatten (tabulate (a + b) f) ≡ flatten (tabulate a f) ++ flatten (tabulate b (λ k. f (a + k)))
unfolding flatten
flatten-add a zero f =
    let e : a + 0 ≡ a = omega arith in
    ap (λ (k : ℕ). flatten (tabulate k f)) e ∙ sym (append-nil (flatten (tabulate a f)))
flatten-add a (suc b) f =
    let e : a + suc b ≡ suc (a + b) = omega arith in
    let g : ℕ → List ℕ = λ k. f (a + k) in
    ap (λ (k : ℕ). flatten (tabulate k f)) e ∙ sym (flatten-more (a + b) f) ∙ ap (λ (t : List ℕ). t ++ f (a + b)) (flatten-add a b f)
    ∙ append_assoc (flatten (tabulate a f)) (flatten (tabulate b g)) (g b) ∙ ap (λ (t : List ℕ). flatten (tabulate a f) ++ t) (flatten-more b g)

-- one row
pub row-alone : (f : ℕ → List ℕ) (i : ℕ) → f i ≡ flatten (tabulate 1 (λ k. f (i + k)))
unfolding flatten
row-alone f i = ap f (let e : i ≡ i + 0 = omega arith in e) ∙ flatten-more 0 (λ k. f (i + k))

-- four rows
pub rows_four : (g : ℕ → List ℕ) → four_rows g ≡ flatten (tabulate 4 g)
unfolding flatten
rows_four g =
    let one : g 0 ≡ flatten (tabulate 1 g) = flatten-more 0 g in
    let two : g 0 ++ g 1 ≡ flatten (tabulate 2 g) = ap (λ (t : List ℕ). t ++ g 1) one ∙ flatten-more 1 g in
    let three : g 0 ++ g 1 ++ g 2 ≡ flatten (tabulate 3 g) = ap (λ (t : List ℕ). t ++ g 2) two ∙ flatten-more 2 g in
    ap (λ (t : List ℕ). t ++ g 3) three ∙ flatten-more 3 g

either_true : (a b : Bool) → a || b ≡ true → (a ≡ true → ⊥) → b ≡ true
either_true true b e n = absurd (n refl)
either_true false b e n = e

-- four parties without p
module _ (i n p : ℕ) (e : leb (i + 4) n && (ltb p i || ltb (i + 3) p) ≡ true) where
  pub four-there : i + 4 ≤ n
  four-there = leb-true (i + 4) n (and-true-left (leb (i + 4) n) (ltb p i || ltb (i + 3) p) e)

  pub none_is : (k : ℕ) → k < 4 → i + k ≡ p → ⊥
  none_is k h q =
      let b : ltb p i || ltb (i + 3) p ≡ true = and-true-right (leb (i + 4) n) (ltb p i || ltb (i + 3) p) e in
      let c : ltb (i + 3) p ≡ true = either_true (ltb p i) (ltb (i + 3) p) b (λ t. let l : p < i = ltb-true p i t in omega arith) in
      let l : i + 3 < p = ltb-true (i + 3) p c in
      omega arith
