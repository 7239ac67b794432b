-- Laws of `some`, `those` and `some_of`.
-- Assumes nothing.
use native.Mathlib.Omega.{arith}
use mathlib.Core.Path.{◌≡◌, refl, sym, ap, ap₂, ◌∙◌}
use mathlib.Core.Bool.{Bool, true, false, cond, not, ◌&&◌, ◌||◌, or-true, or-false, or_comm, or_assoc, true≢false, false≢true}
use mathlib.Core.Logic.{⊎_elim}
use mathlib.Core.List.{List, [], ◌∷◌, ◌++◌}
use Prim.Native.Nat.{ℕ, zero, suc, ◌+◌, ◌≤◌, ◌<◌}
use lib.ListN.{length, length-append}
use Rattle.bits.specs.Bits.{bit_val}
use Rattle.bits.proofs.Numbers.{eq-or-ne}
use Rattle.cover.specs.Cover.{some, those, some_of}

-- tests
pub both : {a b : Bool} → a ≡ true → b ≡ true → a && b ≡ true
both p q = ap₂ ◌&&◌ p q

pub and_first : (a b : Bool) → a && b ≡ true → a ≡ true
and_first true b e = refl
and_first false b e = e

pub and_second : (a b : Bool) → a && b ≡ true → b ≡ true
and_second true b e = e
and_second false b e = absurd (false≢true e)

pub clash : {a : Bool} → a ≡ true → a ≡ false → ⊥
clash p q = true≢false (sym p ∙ q)

pub not_so : (a : Bool) → (a ≡ true → ⊥) → a ≡ false
not_so true h = absurd (h refl)
not_so false h = refl

pub same_test : (a b : Bool) → (a ≡ true → b ≡ true) → (b ≡ true → a ≡ true) → a ≡ b
same_test true b f g = sym (f refl)
same_test false true f g = g refl
same_test false false f g = refl

-- some number below n
pub some-true : (n : ℕ) (f : ℕ → Bool) (i : ℕ) → i < n → f i ≡ true → some n f ≡ true
unfolding some
some-true zero f i l t = absurd (omega arith)
some-true (suc n) f i l t =
    ⊎_elim
    (λ (e : i ≡ n). ap (λ (b : Bool). b || some n f) (ap f (sym e) ∙ t))
    (λ ne. ap (λ (b : Bool). f n || b) (some-true n f i (omega (arith, ne)) t) ∙ or-true (f n))
    (eq-or-ne i n)

last-or-before : (n : ℕ) (f : ℕ → Bool) (b : Bool) → f n ≡ b → b || some n f ≡ true
    → (some n f ≡ true → (i : ℕ) × (i < n) × (f i ≡ true)) → (i : ℕ) × (i < suc n) × (f i ≡ true)
last-or-before n f true e t below = (n, omega arith, e)
last-or-before n f false e t below = let r = below t in (r.0, omega (arith, r.1), r.2)

pub some_at : (n : ℕ) (f : ℕ → Bool) → some n f ≡ true → (i : ℕ) × (i < n) × (f i ≡ true)
unfolding some
some_at zero f t = absurd (false≢true t)
some_at (suc n) f t = last-or-before n f (f n) refl t (some_at n f)

-- a number of a list: whatever it passes, one of the list passes
pub some_of-at : (f : ℕ → Bool) (xs : List ℕ) → some_of f xs ≡ true
    → (x : ℕ) × (f x ≡ true) × ((g : ℕ → Bool) → g x ≡ true → some_of g xs ≡ true)
unfolding some_of
some_of-at f [] t = absurd (false≢true t)
some_of-at f (x ∷ xs) t = go (f x) refl t (some_of-at f xs)
  where
    go : (b : Bool) → f x ≡ b → b || some_of f xs ≡ true
        → (some_of f xs ≡ true → (y : ℕ) × (f y ≡ true) × ((g : ℕ → Bool) → g y ≡ true → some_of g xs ≡ true))
        → (y : ℕ) × (f y ≡ true) × ((g : ℕ → Bool) → g y ≡ true → g x || some_of g xs ≡ true)
    go true e u rest = (x, e, λ g p. ap (λ (b : Bool). b || some_of g xs) p)
    go false e u rest = let r = rest u in (r.0, r.1, λ g p. ap (λ (b : Bool). g x || b) (r.2 g p) ∙ or-true (g x))

some_of-append : (f : ℕ → Bool) (xs ys : List ℕ) → some_of f (xs ++ ys) ≡ some_of f xs || some_of f ys
unfolding some_of
some_of-append f [] ys = refl
some_of-append f (x ∷ xs) ys = ap (λ (b : Bool). f x || b) (some_of-append f xs ys) ∙ sym (or_assoc (f x) (some_of f xs) (some_of f ys))

some_of-last : (f : ℕ → Bool) (n : ℕ) (b : Bool) → some_of f (cond b (n ∷ []) []) ≡ b && f n
unfolding some_of
some_of-last f n true = or-false (f n)
some_of-last f n false = refl

pub some_of-those : (f p : ℕ → Bool) (n : ℕ) → some_of f (those n p) ≡ some n (λ k. p k && f k)
unfolding some those some_of
some_of-those f p zero = refl
some_of-those f p (suc n) =
    some_of-append f (those n p) (cond (p n) (n ∷ []) [])
    ∙ ap₂ ◌||◌ (some_of-those f p n) (some_of-last f n (p n))
    ∙ or_comm (some n (λ k. p k && f k)) (p n && f n)

-- how many numbers pass
length_last : (n : ℕ) (b : Bool) → length (cond b (n ∷ []) []) ≡ bit_val b
length_last n true = refl
length_last n false = refl

pub length-those : (n : ℕ) (f : ℕ → Bool) → length (those (suc n) f) ≡ length (those n f) + bit_val (f n)
unfolding those
length-those n f = length-append (those n f) (cond (f n) (n ∷ []) []) ∙ ap (λ (x : ℕ). length (those n f) + x) (length_last n (f n))

pub those-same : (n : ℕ) (f g : ℕ → Bool) → ((i : ℕ) → i < n → f i ≡ g i) → those n f ≡ those n g
unfolding those
those-same zero f g e = refl
those-same (suc n) f g e =
    ap₂ (λ (s : List ℕ) (b : Bool). s ++ cond b (n ∷ []) []) (those-same n f g (λ i l. e i (omega arith))) (e n (omega arith))

no-numbers : (n : ℕ) → those n (λ i. false) ≡ []
unfolding those
no-numbers zero = refl
no-numbers (suc n) = ap (λ (s : List ℕ). s ++ []) (no-numbers n)

bit_and : (a b : Bool) → bit_val a ≤ bit_val (a && not b) + bit_val b
bit_and true true = omega arith
bit_and true false = omega arith
bit_and false true = omega arith
bit_and false false = omega arith

-- a test takes away at most as many as pass it
but-those : (n : ℕ) (p r : ℕ → Bool) → length (those n p) ≤ length (those n (λ k. p k && not (r k))) + length (those n r)
unfolding those
but-those zero p r = omega arith
but-those (suc n) p r =
    omega (arith, but-those n p r, bit_and (p n) (r n), length-those n p, length-those n (λ k. p k && not (r k)), length-those n r)

at_most_one : (n : ℕ) (r : ℕ → Bool) → ((k m : ℕ) → r k ≡ true → r m ≡ true → k ≡ m) → length (those n r) ≤ 1
unfolding those
at_most_one zero r only = omega arith
at_most_one (suc n) r only = go (r n) refl (at_most_one n r only)
  where
    go : (b : Bool) → r n ≡ b → length (those n r) ≤ 1 → length (those (suc n) r) ≤ 1
    go true e below =
        let none : length (those n r) ≡ 0 =
        ap length (those-same n r (λ i. false) (λ i l. not_so (r i) (λ t. omega (arith, only i n t e))) ∙ no-numbers n) in
        omega (arith, length-those n r, ap bit_val e)
    go false e below = omega (arith, length-those n r, ap bit_val e)

-- where every number that passes has its own in a list, the list is as long
pub own-places : (r : ℕ → ℕ → Bool) → ((x k m : ℕ) → r k x ≡ true → r m x ≡ true → k ≡ m)
    → (n : ℕ) (xs : List ℕ) (p : ℕ → Bool) → ((k : ℕ) → k < n → p k ≡ true → some_of (r k) xs ≡ true)
    → length (those n p) ≤ length xs
unfolding some_of
own-places r only n [] p each =
    omega (arith, ap length (those-same n p (λ i. false) (λ k l. not_so (p k) (λ t. false≢true (each k l t))) ∙ no-numbers n))
own-places r only n (x ∷ xs) p each =
    omega (
      arith,
      own-places r only n xs (λ k. p k && not (r k x)) (λ k l t. without (r k x) (some_of (r k) xs) (and_second (p k) _ t) (each k l (and_first (p k) _ t))),
      but-those n p (λ k. r k x),
      at_most_one n (λ k. r k x) (only x),
    )
  where
    without : (a b : Bool) → not a ≡ true → a || b ≡ true → b ≡ true
    without true b u v = absurd (false≢true u)
    without false b u v = v

-- those that pass and those that do not are all
bit_not : (b : Bool) → bit_val b + bit_val (not b) ≡ 1
bit_not true = refl
bit_not false = refl

pub length-others : (n : ℕ) (f : ℕ → Bool) → length (those n f) + length (those n (λ i. not (f i))) ≡ n
unfolding those
length-others zero f = refl
length-others (suc n) f = omega (arith, length-others n f, bit_not (f n), length-those n f, length-those n (λ i. not (f i)))
