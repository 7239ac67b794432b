-- Members of lists: of a map, of two lists joined, of nested choices, of what a test keeps.
-- Assumes nothing.
use mathlib.Core.Path.{◌≡◌, refl, sym, ap, subst, ◌∙◌}
use mathlib.Core.Bool.{Bool, true, false, cond}
use mathlib.Core.List.{List, [], ◌∷◌, ◌++◌, map}
use mathlib.Core.Logic.{◌⊎◌, inl, inr, ⊎_elim}
use Prim.Native.Nat.{ℕ, zero, suc, ◌<◌}
use native.Mathlib.Omega.{arith}
use lib.ListN.{length, get_or}
use Rattle.bits.specs.Bits.{tabulate}
use Rattle.small.specs.Small.{choose, keep}

-- x is a member of a list
unfoldable pub In : {A : Type 0} → A → List A → Type 0
In x [] = ⊥
In x (y ∷ l) = (x ≡ y) ⊎ In x l

module _ {A : Type 0} where
  pub in-nothing : {B : Type 0} (x : A) → In x [] → B
  unfolding In
  in-nothing x h = absurd h

  pub in-here : (x y : A) (l : List A) → x ≡ y → In x (y ∷ l)
  unfolding In
  in-here x y l e = inl e

  pub in-later : (x y : A) (l : List A) → In x l → In x (y ∷ l)
  unfolding In
  in-later x y l h = inr h

  pub in-cons : (x y : A) (l : List A) → In x (y ∷ l) → (x ≡ y) ⊎ In x l
  unfolding In
  in-cons x y l h = h

  pub in_one : (x y : A) → In x (y ∷ []) → x ≡ y
  unfolding In
  in_one x y h = ⊎_elim (λ e. e) (λ e. absurd e) h

  pub in_left : (x : A) (l m : List A) → In x l → In x (l ++ m)
  unfolding In
  in_left x [] m h = absurd h
  in_left x (y ∷ l) m h = ⊎_elim (λ e. inl e) (λ e. inr (in_left x l m e)) h

  pub in_right : (x : A) (l m : List A) → In x m → In x (l ++ m)
  unfolding In
  in_right x [] m h = h
  in_right x (y ∷ l) m h = inr (in_right x l m h)

  pub in_either : (x : A) (l m : List A) → In x (l ++ m) → In x l ⊎ In x m
  unfolding In
  in_either x [] m h = inr h
  in_either x (y ∷ l) m h = ⊎_elim (λ e. inl (inl e)) (λ e. ⊎_elim (λ i. inl (inr i)) (λ i. inr i) (in_either x l m e)) h

  -- the element at a place, and the place of a member
  pub in_place : (l : List A) (d : A) (k : ℕ) → k < length l → In (get_or l k d) l
  unfolding In
  in_place [] d k h = absurd (omega arith)
  in_place (y ∷ l) d zero h = inl refl
  in_place (y ∷ l) d (suc k) h = inr (in_place l d k (omega arith))

  pub place_of : (x d : A) (l : List A) → In x l → (k : ℕ) × ((k < length l) × (get_or l k d ≡ x))
  unfolding In
  place_of x d [] h = absurd h
  place_of x d (y ∷ l) h =
      ⊎_elim (λ e. (0, (omega arith, sym e))) (λ i. let p = place_of x d l i in (suc p.0, (omega (arith, p.1.0), p.1.1))) h

module _ {A B : Type 0} (f : A → B) where
  pub in_map : (x : A) (l : List A) → In x l → In (f x) (map f l)
  unfolding In
  in_map x [] h = absurd h
  in_map x (y ∷ l) h = ⊎_elim (λ e. inl (ap f e)) (λ i. inr (in_map x l i)) h

  pub map-in : (y : B) (l : List A) → In y (map f l) → (x : A) × ((y ≡ f x) × In x l)
  unfolding In
  map-in y [] h = absurd h
  map-in y (x ∷ l) h = ⊎_elim (λ e. (x, (e, inl refl))) (λ i. let p = map-in y l i in (p.0, (p.1.0, inr p.1.1))) h

-- a list with a value of vs in front
pub in-choose : (v : ℕ) (t : List ℕ) (vs : List ℕ) (f : ℕ → List (List ℕ)) → In v vs → In t (f v) → In (v ∷ t) (choose vs f)
unfolding choose
in-choose v t [] f h i = in-nothing v h
in-choose v t (x ∷ vs) f h i =
    ⊎_elim
    (λ e. in_left (v ∷ t) _ _ (subst (λ (y : ℕ). In (v ∷ t) (map (λ u. y ∷ u) (f y))) e (in_map (λ u. v ∷ u) t (f v) i)))
    (λ j. in_right (v ∷ t) (map (λ u. x ∷ u) (f x)) _ (in-choose v t vs f j i))
    (in-cons v x vs h)

-- what a member of nested choices is
pub record Chosen (s : List ℕ) (vs : List ℕ) (f : ℕ → List (List ℕ)) : Type 0 where
  pub value : ℕ
  pub rest : List ℕ
  pub same : s ≡ value ∷ rest
  pub value_in : In value vs
  pub rest_in : In rest (f value)

pub choose-in : (s : List ℕ) (vs : List ℕ) (f : ℕ → List (List ℕ)) → In s (choose vs f) → Chosen s vs f
unfolding choose
choose-in s [] f h = in-nothing s h
choose-in s (x ∷ vs) f h =
    ⊎_elim
    (λ i.
    let p = map-in (λ u. x ∷ u) s (f x) i in
    record { value = x; rest = p.0; same = p.1.0; value_in = in-here x x vs refl; rest_in = p.1.1 })
    (λ i.
    let p = choose-in s vs f i in
    record { value = p.value; rest = p.rest; same = p.same; value_in = in-later p.value x vs p.value_in; rest_in = p.rest_in })
    (in_either s (map (λ u. x ∷ u) (f x)) (choose vs f) h)

-- more values and more lists after them make more members
pub choose-more : (vs ws : List ℕ) (f g : ℕ → List (List ℕ)) → ((v : ℕ) → In v vs → In v ws)
    → ((v : ℕ) → In v vs → (t : List ℕ) → In t (f v) → In t (g v)) → (s : List ℕ) → In s (choose vs f) → In s (choose ws g)
choose-more vs ws f g h k s i =
    let p = choose-in s vs f i in
    subst (λ (t : List ℕ). In t (choose ws g)) (sym p.same)
    (in-choose p.value p.rest ws g (h p.value p.value_in) (k p.value p.value_in p.rest p.rest_in))

-- what a test keeps
module _ (test : List ℕ → Bool) where
  pub in-keep : (s : List ℕ) (l : List (List ℕ)) → In s l → test s ≡ true → In s (keep test l)
  unfolding keep
  in-keep s [] h e = in-nothing s h
  in-keep s (x ∷ l) h e =
      ⊎_elim
      (λ p. subst (λ (b : Bool). In s (cond b (x ∷ keep test l) (keep test l))) (sym (ap test (sym p) ∙ e)) (in-here s x (keep test l) p))
      (λ i. pick (test x) (in-keep s l i e))
      (in-cons s x l h)
    where
      pick : (b : Bool) → In s (keep test l) → In s (cond b (x ∷ keep test l) (keep test l))
      pick true i = in-later s x (keep test l) i
      pick false i = i

  pub keep-in : (s : List ℕ) (l : List (List ℕ)) → In s (keep test l) → In s l × (test s ≡ true)
  unfolding keep
  keep-in s [] h = in-nothing s h
  keep-in s (x ∷ l) h = pick (test x) refl (λ i. keep-in s l i) h
    where
      later : In s l × (test s ≡ true) → In s (x ∷ l) × (test s ≡ true)
      later p = (in-later s x l p.0, p.1)

      pick : (b : Bool) → test x ≡ b → (In s (keep test l) → In s l × (test s ≡ true)) → In s (cond b (x ∷ keep test l) (keep test l))
          → In s (x ∷ l) × (test s ≡ true)
      pick true e f i = ⊎_elim (λ p. (in-here s x l p, ap test p ∙ e)) (λ j. later (f j)) (in-cons s x (keep test l) i)
      pick false e f i = later (f i)

-- the numbers below n
pub in-tabulate : {A : Type 0} (n : ℕ) (f : ℕ → A) (i : ℕ) → i < n → In (f i) (tabulate n f)
unfolding In
in-tabulate zero f i h = absurd (omega arith)
in-tabulate (suc n) f zero h = inl refl
in-tabulate (suc n) f (suc i) h = inr (in-tabulate n (λ j. f (suc j)) i (omega arith))

pub tabulate-in : {A : Type 0} (x : A) (n : ℕ) (f : ℕ → A) → In x (tabulate n f) → (i : ℕ) × ((i < n) × (x ≡ f i))
unfolding In
tabulate-in x zero f h = absurd h
tabulate-in x (suc n) f h =
    ⊎_elim
    (λ e. (0, (omega arith, e)))
    (λ i. let p = tabulate-in x n (λ j. f (suc j)) i in (suc p.0, (omega (arith, p.1.0), p.1.1)))
    h
