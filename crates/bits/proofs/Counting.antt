-- How often a number stands in a list: the laws of `count`; and a list of g numbers, all of 1..g and none twice, has each of them once.
-- Assumes nothing.
use mathlib.Core.Path.{◌≡◌, refl, sym, ◌∙◌}
use mathlib.Core.List.{List, [], ◌∷◌, ◌++◌}
use mathlib.Core.Logic.{◌≢◌, ◌⊎◌, inl, inr, ⊎_elim}
use Prim.Native.Nat.{ℕ, zero, suc, ◌+◌, ◌≤◌, ◌<◌}
use native.Mathlib.Nat.{eq-or-lt_of_le}
use native.Mathlib.Omega.{arith}
use borrow.Author.Tests.{eq-eqb, ne_eqb}
use lib.Dec.{eqb}
use lib.ListN.{length}
use Rattle.bits.specs.Bits.{bit_val}
use Rattle.bits.specs.Counting.{count}
use Rattle.bits.proofs.Numbers.{lt-or-le, bit_val-lt}

-- nothing stands in the empty list
pub count-nil : (x : ℕ) → count x [] ≡ 0
unfolding count
count-nil x = refl

-- an element more
pub count-cons : (x y : ℕ) (l : List ℕ) → count x (y ∷ l) ≡ bit_val (eqb x y) + count x l
unfolding count
count-cons x y l = refl

-- a list with x at its front has it once more
pub count-here : (x y : ℕ) (l : List ℕ) → x ≡ y → count x (y ∷ l) ≡ 1 + count x l
unfolding count
count-here x y l e = rw (eq-eqb x y e)

pub count_same : (x : ℕ) (l : List ℕ) → count x (x ∷ l) ≡ 1 + count x l
count_same x l = count-here x x l refl

-- a list with another number at its front has x as often as the rest
pub count-other : (x y : ℕ) (l : List ℕ) → x ≢ y → count x (y ∷ l) ≡ count x l
unfolding count
count-other x y l n = rw (ne_eqb x y n) (omega arith)

-- the rest of a list has x at most as often
pub count-rest : (x y : ℕ) (l : List ℕ) → count x l ≤ count x (y ∷ l)
unfolding count
count-rest x y l = omega arith

-- counts in two lists, one after the other
pub count-append : (x : ℕ) (l m : List ℕ) → count x (l ++ m) ≡ count x l + count x m
unfolding count
count-append x [] m = omega arith
count-append x (y ∷ l) m = omega (arith, count-append x l m)

-- at most as often as the list has elements
pub count-le : (x : ℕ) (l : List ℕ) → count x l ≤ length l
unfolding count
count-le x [] = omega arith
count-le x (y ∷ l) = omega (arith, count-le x l, bit_val-lt (eqb x y))

-- all numbers of a list are in 1..g
abbrev pub Within : ℕ → List ℕ → Type 0
Within g xs = (k : ℕ) → (k ≡ 0) ⊎ (g < k) → count k xs ≡ 0

-- then its first number is
pub within_first : (g y : ℕ) (ys : List ℕ) → Within g (y ∷ ys) → (1 ≤ y) × (y ≤ g)
within_first g y ys h =
    let one : (k : ℕ) → (k ≡ 0) ⊎ (g < k) → y ≢ k = λ k o e. omega (arith, h k o, count-here k y ys (sym e)) in (
      ⊎_elim (λ l. absurd (one 0 (inl refl) (omega arith))) (λ l. l) (lt-or-le y 1),
      ⊎_elim (λ l. absurd (one y (inr l) refl)) (λ l. l) (lt-or-le g y),
    )

-- and so are the others
pub within-rest : (g y : ℕ) (ys : List ℕ) → Within g (y ∷ ys) → Within g ys
within-rest g y ys h k o = omega (arith, h k o, count-rest k y ys)

-- f 1 + .. + f n
sum : (ℕ → ℕ) → ℕ → ℕ
sum f zero = 0
sum f (suc n) = sum f n + f (suc n)

-- 1 at y and 0 elsewhere
abbrev at : ℕ → ℕ → ℕ
at y k = bit_val (eqb k y)

-- the sum of 1 at y and 0 elsewhere is 0 before y
sum-before : (y n : ℕ) → n < y → sum (at y) n ≡ 0
unfolding sum
sum-before y zero l = refl
sum-before y (suc n) l = rw (ne_eqb (suc n) y (omega arith)) (omega (arith, sum-before y n (omega arith)))

-- and 1 from there on
sum-from : (y n : ℕ) → 1 ≤ y → y ≤ n → sum (at y) n ≡ 1
unfolding sum
sum-from y zero p l = absurd (omega arith)
sum-from y (suc n) p l =
    ⊎_elim (λ e. rw (eq-eqb (suc n) y (sym e)) (omega (arith, sum-before y n (omega arith))))
    (λ m. rw (ne_eqb (suc n) y (omega arith)) (omega (arith, sum-from y n p (omega arith))))
    (eq-or-lt_of_le l)

-- the sum of a list's counts grows by that of its front
sum-cons : (y : ℕ) (ys : List ℕ) (n : ℕ) → sum (λ k. count k (y ∷ ys)) n ≡ sum (at y) n + sum (λ k. count k ys) n
unfolding sum count
sum-cons y ys zero = refl
sum-cons y ys (suc n) = omega (arith, sum-cons y ys n)

-- the empty list counts nothing
sum-nil : (n : ℕ) → sum (λ k. count k []) n ≡ 0
unfolding sum count
sum-nil zero = refl
sum-nil (suc n) = omega (arith, sum-nil n)

-- the counts of a list of numbers in 1..g add up to its length
sum-counts : (g : ℕ) (xs : List ℕ) → Within g xs → sum (λ k. count k xs) g ≡ length xs
sum-counts g [] h = sum-nil g
sum-counts g (y ∷ ys) h =
    let i : (1 ≤ y) × (y ≤ g) = within_first g y ys h in
    omega (arith, sum-cons y ys g, sum-from y g i.0 i.1, sum-counts g ys (within-rest g y ys h))

-- n numbers that are at most 1 add up to at most n
sum-le : (f : ℕ → ℕ) (n : ℕ) → ((k : ℕ) → f k ≤ 1) → sum f n ≤ n
unfolding sum
sum-le f zero h = omega arith
sum-le f (suc n) h = omega (arith, sum-le f n h, h (suc n))

-- if they add up to n, each is 1
sum-full : (f : ℕ → ℕ) (n : ℕ) → ((k : ℕ) → f k ≤ 1) → sum f n ≡ n → (k : ℕ) → 1 ≤ k → k ≤ n → f k ≡ 1
unfolding sum
sum-full f zero h e k p l = absurd (omega arith)
sum-full f (suc n) h e k p l =
    ⊎_elim (λ q. rw q (omega (arith, sum-le f n h, h (suc n))))
    (λ m. sum-full f n h (omega (arith, sum-le f n h, h (suc n))) k p (omega arith))
    (eq-or-lt_of_le l)

-- and if each is 1, they add up to n
sum_ones : (f : ℕ → ℕ) (n : ℕ) → ((k : ℕ) → 1 ≤ k → k ≤ n → f k ≡ 1) → sum f n ≡ n
unfolding sum
sum_ones f zero h = refl
sum_ones f (suc n) h = omega (arith, sum_ones f n (λ k p l. h k p (omega arith)), h (suc n) (omega arith) (omega arith))

-- g numbers in 1..g, none twice, are each of them once
pub each-once : (g : ℕ) (xs : List ℕ) → Within g xs → ((k : ℕ) → count k xs ≤ 1) → length xs ≡ g → (k : ℕ) → 1 ≤ k → k ≤ g → count k xs ≡ 1
each-once g xs w h e = sum-full (λ k. count k xs) g h (sum-counts g xs w ∙ e)

-- numbers in 1..g, each of them once, are g numbers
pub once-length : (g : ℕ) (xs : List ℕ) → Within g xs → ((k : ℕ) → 1 ≤ k → k ≤ g → count k xs ≡ 1) → length xs ≡ g
once-length g xs w h = sym (sum-counts g xs w) ∙ sum_ones (λ k. count k xs) g h
