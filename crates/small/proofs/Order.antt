-- The order of strings, and ascending lists of strings: nested choices over ascending values are ascending, a test keeps the order, and
-- two ascending lists with the same members are the same list.
-- Assumes nothing.
use mathlib.Core.Path.{◌≡◌, refl, sym, ap₂, subst, ◌∙◌}
use mathlib.Core.Bool.{Bool, true, false, cond}
use mathlib.Core.List.{List, [], ◌∷◌, ◌++◌, map}
use mathlib.Core.Logic.{inl, inr, ⊎_elim}
use Prim.{Unit, tt}
use Prim.Native.Nat.{ℕ, zero, suc, ◌<◌}
use native.Mathlib.Omega.{arith}
use lib.ListN.{length, get_or}
use Rattle.bits.specs.Bits.{tabulate}
use Rattle.small.specs.Order.{Before}
use Rattle.small.specs.Small.{below, choose, keep}
use Rattle.small.proofs.Members.{In, in-nothing, in-here, in-later, in-cons, in_either, in_place, map-in, choose-in, keep-in, tabulate-in}

-- no two strings come before each other
pub before-not : (s t : List ℕ) → Before s t → Before t s → ⊥
unfolding Before
before-not [] [] a b = a
before-not [] (y ∷ t) a b = b
before-not (x ∷ s) [] a b = a
before-not (x ∷ s) (y ∷ t) a b =
    ⊎_elim
    (λ l. ⊎_elim (λ m. omega arith) (λ m. let e = m.0 in omega arith) b)
    (λ l. ⊎_elim (λ m. let e = l.0 in omega arith) (λ m. before-not s t l.1 m.1) b)
    a

-- the same byte in front of both, and the same string
pub before-cons : (x : ℕ) (s t : List ℕ) → Before s t → Before (x ∷ s) (x ∷ t)
unfolding Before
before-cons x s t h = inr (refl, h)

pub before-less : (x y : ℕ) (s t : List ℕ) → x < y → Before (x ∷ s) (y ∷ t)
unfolding Before
before-less x y s t h = inl h

pub before-append : (p s t : List ℕ) → Before s t → Before (p ++ s) (p ++ t)
before-append [] s t h = h
before-append (x ∷ p) s t h = before-cons x (p ++ s) (p ++ t) (before-append p s t h)

-- each string of a list comes before those after it
unfoldable pub Ascending : List (List ℕ) → Type 0
Ascending [] = Unit {0}
Ascending (s ∷ l) = ((t : List ℕ) → In t l → Before s t) × Ascending l

-- and the same of numbers
unfoldable pub Rising : List ℕ → Type 0
Rising [] = Unit {0}
Rising (x ∷ l) = ((y : ℕ) → In y l → x < y) × Rising l

pub rising-tabulate : (n : ℕ) (f : ℕ → ℕ) → ((i j : ℕ) → i < j → j < n → f i < f j) → Rising (tabulate n f)
unfolding Rising
rising-tabulate zero f h = tt
rising-tabulate (suc n) f h = (
  λ y i.
      let p = tabulate-in y n (λ j. f (suc j)) i in
      subst (λ (z : ℕ). f 0 < z) (sym p.1.1) (h 0 (suc p.0) (omega arith) (omega (arith, p.1.0))),
  rising-tabulate n (λ j. f (suc j)) (λ i j a b. h (suc i) (suc j) (omega arith) (omega arith)),
)

pub rising-below : (n : ℕ) → Rising (below n)
rising-below n = rising-tabulate n (λ i. i) (λ i j a b. a)

pub rising-one : (x : ℕ) → Rising (x ∷ [])
unfolding Rising
rising-one x = (λ y i. in-nothing y i, tt)

pub rising-cons : (x y : ℕ) (l : List ℕ) → x < y → Rising (y ∷ l) → Rising (x ∷ y ∷ l)
unfolding Rising
rising-cons x y l h r =
    (λ z i. ⊎_elim (λ (e : z ≡ y). subst (λ (w : ℕ). x < w) (sym e) h) (λ j. let k : y < z = r.0 z j in omega arith) (in-cons z y l i), r)

-- lists joined, where the one comes before the other
pub ascending-append : (l m : List (List ℕ)) → Ascending l → Ascending m → ((s t : List ℕ) → In s l → In t m → Before s t) → Ascending (l ++ m)
unfolding Ascending
ascending-append [] m a b h = b
ascending-append (s ∷ l) m a b h = (
  λ t i. ⊎_elim (a.0 t) (h s t (in-here s s l refl)) (in_either t l m i),
  ascending-append l m a.1 b (λ u t i j. h u t (in-later u s l i) j),
)

-- a map that keeps the order of a list's members
pub ascending-map : (f : List ℕ → List ℕ) (l : List (List ℕ)) → ((s t : List ℕ) → In s l → In t l → Before s t → Before (f s) (f t))
    → Ascending l → Ascending (map f l)
unfolding Ascending
ascending-map f [] h a = tt
ascending-map f (s ∷ l) h a = (
  λ t i.
      let p = map-in f t l i in
      subst (λ (u : List ℕ). Before (f s) u) (sym p.1.0)
      (h s p.0 (in-here s s l refl) (in-later p.0 s l p.1.1) (a.0 p.0 p.1.1)),
  ascending-map f l (λ u t i j. h u t (in-later u s l i) (in-later t s l j)) a.1,
)

-- nested choices over rising values, each with ascending lists after it
pub ascending-choose : (vs : List ℕ) (f : ℕ → List (List ℕ)) → Rising vs → ((v : ℕ) → In v vs → Ascending (f v)) → Ascending (choose vs f)
unfolding choose Rising Ascending
ascending-choose [] f r h = tt
ascending-choose (v ∷ vs) f r h =
    ascending-append (map (λ t. v ∷ t) (f v)) (choose vs f)
    (ascending-map (λ t. v ∷ t) (f v) (λ s t i j b. before-cons v s t b) (h v (in-here v v vs refl)))
    (ascending-choose vs f r.1 (λ w i. h w (in-later w v vs i)))
    (λ s t i j.
    let p = map-in (λ u. v ∷ u) s (f v) i in
    let q = choose-in t vs f j in
    subst (λ (x : List ℕ). Before x t) (sym p.1.0)
    (subst (λ (y : List ℕ). Before (v ∷ p.0) y) (sym q.same) (before-less v q.value p.0 q.rest (r.0 q.value q.value_in))))

pub ascending-end : Ascending ([] ∷ [])
unfolding Ascending
ascending-end = (λ t i. in-nothing t i, tt)

-- what a test keeps
pub ascending-keep : (test : List ℕ → Bool) (l : List (List ℕ)) → Ascending l → Ascending (keep test l)
unfolding Ascending keep
ascending-keep test [] a = tt
ascending-keep test (s ∷ l) a = pick (test s) (ascending-keep test l a.1)
  where
    pick : (b : Bool) → Ascending (keep test l) → Ascending (cond b (s ∷ keep test l) (keep test l))
    pick true k = (λ t i. a.0 t (keep-in test t l i).0, k)
    pick false k = k

-- ascending lists with the same members are the same
pub ascending-same : (l m : List (List ℕ)) → Ascending l → Ascending m → ((s : List ℕ) → In s l → In s m) → ((s : List ℕ) → In s m → In s l) → l ≡ m
unfolding Ascending
ascending-same [] [] a b f g = refl
ascending-same [] (t ∷ m) a b f g = in-nothing t (g t (in-here t t m refl))
ascending-same (s ∷ l) [] a b f g = in-nothing s (f s (in-here s s l refl))
ascending-same (s ∷ l) (t ∷ m) a b f g =
    let e : s ≡ t =
    ⊎_elim (λ p. p)
    (λ i. ⊎_elim (λ p. sym p) (λ j. absurd (before-not s t (a.0 t j) (b.0 s i))) (in-cons t s l (g t (in-here t t m refl))))
    (in-cons s t m (f s (in-here s s l refl))) in
    let below-s : (u : List ℕ) → u ≡ s → In u l → ⊥ =
    λ u p i. before-not s u (a.0 u i) (subst (λ (w : List ℕ). Before w s) (sym p) (subst (λ (w : List ℕ). Before s w) p (a.0 u i))) in
    let below-t : (u : List ℕ) → u ≡ t → In u m → ⊥ =
    λ u p i. before-not t u (b.0 u i) (subst (λ (w : List ℕ). Before w t) (sym p) (subst (λ (w : List ℕ). Before t w) p (b.0 u i))) in
    ap₂ ◌∷◌ e
    (ascending-same l m a.1 b.1
    (λ u i. ⊎_elim (λ p. absurd (below-s u (p ∙ sym e) i)) (λ j. j) (in-cons u t m (f u (in-later u s l i))))
    (λ u i. ⊎_elim (λ p. absurd (below-t u (p ∙ e) i)) (λ j. j) (in-cons u s l (g u (in-later u t m i)))))

-- a later place has a later string
pub ascending-places : (l : List (List ℕ)) (j k : ℕ) → Ascending l → j < k → k < length l → Before (get_or l j []) (get_or l k [])
unfolding Ascending
ascending-places [] j k a h i = absurd (omega arith)
ascending-places (s ∷ l) j zero a h i = absurd (omega arith)
ascending-places (s ∷ l) zero (suc k) a h i = a.0 (get_or l k []) (in_place l [] k (omega arith))
ascending-places (s ∷ l) (suc j) (suc k) a h i = ascending-places l j k a.1 (omega arith) (omega arith)
