-- The cyclic order by numbers: how many callers stand before caller d, beginning with b.
-- Assumes nothing.
use mathlib.Core.Path.{◌≡◌, refl, sym, ◌∙◌}
use mathlib.Core.Bool.{Bool, true, false, cond, true≢false}
use mathlib.Core.List.{List, [], ◌∷◌, ◌++◌}
use mathlib.Core.Option.{Option, none, some}
use mathlib.Core.Logic.{◌≢◌, ⊎_elim}
use Prim.Native.Nat.{ℕ, zero, suc, ◌+◌, ◌-◌, ◌≤◌, ◌<◌}
use native.Mathlib.Omega.{arith}
use borrow.Author.Tests.{lt-ltb, le-ltb}
use lib.Dec.{ltb}
use Rattle.bits.proofs.Numbers.{lt-or-le, eq-or-ne}
use Rattle.schedule.specs.Schedule.{begin, numbers, cyclic, first_of, next}

pub clash : {a : Bool} → a ≡ true → a ≡ false → ⊥
clash p q = true≢false (sym p ∙ q)

-- how many callers stand before d
unfoldable pub rank : ℕ → ℕ → ℕ → ℕ
rank N b d = cond (ltb d b) (N + d - b) (d - b)

pub rank-low : (N b d : ℕ) → d < b → rank N b d ≡ N + d - b
unfolding rank
rank-low N b d l = rw (lt-ltb d b l)

pub rank-high : (N b d : ℕ) → b ≤ d → rank N b d ≡ d - b
unfolding rank
rank-high N b d l = rw (le-ltb d b l)

module _ (N b d : ℕ) (bN : b ≤ N) (dN : d < N) where
  -- fewer than N
  pub rank_lt : rank N b d < N
  rank_lt =
      ⊎_elim
      (λ (l : d < b). omega (arith, rank-low N b d l))
      (λ (l : b ≤ d). omega (arith, rank-high N b d l))
      (lt-or-le d b)

  -- after a service of e, which stands before d: those from e on
  pub rank-after : (e : ℕ) → e < N → rank N b e < rank N b d → rank N (suc e) d + rank N b e + 1 ≡ rank N b d
  rank-after e eN r =
      ⊎_elim
      (λ (l : d < b).
      ⊎_elim
      (λ (m : e < b).
      let x = rank-low N b d l in
      let y = rank-low N b e m in
      let z = rank-high N (suc e) d (omega arith) in
      omega arith)
      (λ (m : b ≤ e).
      let x = rank-low N b d l in
      let y = rank-high N b e m in
      let z = rank-low N (suc e) d (omega arith) in
      omega arith)
      (lt-or-le e b))
      (λ (l : b ≤ d).
      ⊎_elim
      (λ (m : e < b).
      let x = rank-high N b d l in
      let y = rank-low N b e m in
      absurd (omega arith))
      (λ (m : b ≤ e).
      let x = rank-high N b d l in
      let y = rank-high N b e m in
      let z = rank-high N (suc e) d (omega arith) in
      omega arith)
      (lt-or-le e b))
      (lt-or-le d b)

  -- different callers have different ranks
  pub rank-apart : (e : ℕ) → e < N → rank N b e ≡ rank N b d → e ≡ d
  rank-apart e eN r =
      ⊎_elim
      (λ (l : d < b).
      ⊎_elim
      (λ (m : e < b). omega (arith, rank-low N b d l, rank-low N b e m))
      (λ (m : b ≤ e). absurd (omega (arith, rank-low N b d l, rank-high N b e m)))
      (lt-or-le e b))
      (λ (l : b ≤ d).
      ⊎_elim
      (λ (m : e < b). absurd (omega (arith, rank-high N b d l, rank-low N b e m)))
      (λ (m : b ≤ e). omega (arith, rank-high N b d l, rank-high N b e m))
      (lt-or-le e b))
      (lt-or-le d b)

-- who was just served is now last
pub rank-last : (N e : ℕ) → e < N → rank N (suc e) e + 1 ≡ N
rank-last N e l = omega (arith, rank-low N (suc e) e (omega arith))

-- the first of some numbers in a row that passes: those before it do not
pub record Least (f : ℕ → Bool) (a n e : ℕ) : Type 0 where
  pub low : a ≤ e
  pub high : e < a + n
  pub passes : f e ≡ true
  pub before : (d : ℕ) → a ≤ d → d < e → f d ≡ false

some-eq : {x y : ℕ} → some x ≡ some y → x ≡ y
some-eq p = cc

least-cons : (f : ℕ → Bool) (a n e : ℕ) (t : Bool) → f a ≡ t → cond t (some a) (first_of f (numbers (suc a) n)) ≡ some e
    → (first_of f (numbers (suc a) n) ≡ some e → Least f (suc a) n e) → Least f a (suc n) e
least-cons f a n e true q p ih =
    let z : a ≡ e = some-eq p in
    record { low = omega arith; high = omega arith; passes = rw (sym z) q; before = λ d u v. absurd (omega arith) }
least-cons f a n e false q p ih =
    let r = ih p in
    record {
      low = omega (arith, r.low);
      high = omega (arith, r.high);
      passes = r.passes;
      before = λ d u v. ⊎_elim (λ (g : d ≡ a). rw g q) (λ (g : d ≢ a). r.before d (omega arith) v) (eq-or-ne d a);
    }

pub numbers-first : (f : ℕ → Bool) (a n e : ℕ) → first_of f (numbers a n) ≡ some e → Least f a n e
unfolding first_of numbers
numbers-first f a zero e p = let z : ◌≡◌ {A = ℕ} 0 1 = cc in absurd (omega arith)
numbers-first f a (suc n) e p = least-cons f a n e (f a) refl p (numbers-first f (suc a) n e)

none-cons : (f : ℕ → Bool) (a n : ℕ) (t : Bool) → f a ≡ t → cond t (some a) (first_of f (numbers (suc a) n)) ≡ none
    → (first_of f (numbers (suc a) n) ≡ none → (d : ℕ) → suc a ≤ d → d < suc a + n → f d ≡ false)
    → (d : ℕ) → a ≤ d → d < a + suc n → f d ≡ false
none-cons f a n true q p ih d u v = let z : ◌≡◌ {A = ℕ} 0 1 = cc in absurd (omega arith)
none-cons f a n false q p ih d u v =
    ⊎_elim (λ (g : d ≡ a). rw g q) (λ (g : d ≢ a). ih p d (omega arith) (omega arith)) (eq-or-ne d a)

pub numbers-none : (f : ℕ → Bool) (a n : ℕ) → first_of f (numbers a n) ≡ none → (d : ℕ) → a ≤ d → d < a + n → f d ≡ false
unfolding first_of numbers
numbers-none f a zero p d u v = absurd (omega arith)
numbers-none f a (suc n) p d u v = none-cons f a n (f a) refl p (numbers-none f (suc a) n) d u v

-- the first of two lists
abbrev pub or_else : Option ℕ → Option ℕ → Option ℕ
or_else none y = y
or_else (some x) y = some x

cond-else : (t : Bool) (x : ℕ) (y z : Option ℕ) → cond t (some x) (or_else y z) ≡ or_else (cond t (some x) y) z
cond-else true x y z = refl
cond-else false x y z = refl

pub first-append : (f : ℕ → Bool) (xs ys : List ℕ) → first_of f (xs ++ ys) ≡ or_else (first_of f xs) (first_of f ys)
unfolding first_of
first-append f [] ys = refl
first-append f (x ∷ xs) ys = rw (first-append f xs ys) (cond-else (f x) x (first_of f xs) (first_of f ys))

-- the next caller waits, and stands before every other that waits
pub record Next (N b : ℕ) (f : ℕ → Bool) (e : ℕ) : Type 0 where
  pub within : e < N
  pub passes : f e ≡ true
  pub least : (d : ℕ) → d < N → f d ≡ true → rank N b e ≤ rank N b d

first-cyclic : (N b : ℕ) (f : ℕ → Bool) (e : ℕ) → b ≤ N → (o : Option ℕ) → first_of f (numbers b (N - b)) ≡ o
    → or_else o (first_of f (numbers 0 b)) ≡ some e → Next N b f e
first-cyclic N b f e l none q p =
    let r = numbers-first f 0 b e p in
    let z = numbers-none f b (N - b) q in
    let x = rank-low N b e (omega (arith, r.high)) in
    record {
      within = omega (arith, r.high);
      passes = r.passes;
      least =
          λ d u v.
          ⊎_elim
          (λ (m : d < b).
          let y = rank-low N b d m in
          ⊎_elim (λ (k : d < e). absurd (clash v (r.before d (omega arith) k))) (λ (k : e ≤ d). omega arith) (lt-or-le d e))
          (λ (m : b ≤ d). absurd (clash v (z d m (omega arith))))
          (lt-or-le d b);
    }
first-cyclic N b f e l (some i) q p =
    let g : first_of f (numbers b (N - b)) ≡ some e = q ∙ p in
    let r = numbers-first f b (N - b) e g in
    let x = rank-high N b e r.low in
    let h = r.high in
    let w = r.low in
    record {
      within = omega arith;
      passes = r.passes;
      least =
          λ d u v.
          ⊎_elim
          (λ (m : d < b). let y = rank-low N b d m in omega arith)
          (λ (m : b ≤ d).
          let y = rank-high N b d m in
          ⊎_elim (λ (k : d < e). absurd (clash v (r.before d m k))) (λ (k : e ≤ d). omega arith) (lt-or-le d e))
          (lt-or-le d b);
    }

pub next-first : (N : ℕ) (last : Option ℕ) (f : ℕ → Bool) (e : ℕ) → begin last ≤ N → next N last f ≡ some e → Next N (begin last) f e
unfolding next cyclic
next-first N last f e l p =
    first-cyclic N (begin last) f e l (first_of f (numbers (begin last) (N - begin last))) refl
    (sym (first-append f (numbers (begin last) (N - begin last)) (numbers 0 (begin last))) ∙ p)
