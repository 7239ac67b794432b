-- A bit for each party: sums over the parties, one party changed, and one party found from the others.
-- Assumes nothing.
use mathlib.Core.Path.{◌≡◌, refl, sym, ap, ◌∙◌, fun_ext}
use mathlib.Core.Bool.{Bool, ◌&&◌}
use mathlib.Core.Logic.{◌≢◌, ⊎_elim}
use Prim.Native.Nat.{ℕ, zero, suc, ◌<◌}
use lib.Dec.{eqb}
use borrow.Author.Tests.{eq-eqb, ne_eqb}
use Rattle.bits.specs.Xor.{◌⊕◌, xors}
use Rattle.bits.proofs.Numbers.{eq-or-ne}
use Rattle.bits.proofs.Xor.{ring, xor-false, xors-zero, xors-suc, xors-change, xors-without-cong, share-from-others}
use Rattle.plain.specs.Run.{Column, plus, broadcast}

-- the column that is d at party p
abbrev pub at : ℕ → Bool → Column
at p d i = eqb i p && d

-- if party p's bit changes by d, the sum changes by d
pub xors-at : (n p : ℕ) (x : Column) (d : Bool) → p < n → xors n (plus x (at p d)) ≡ xors n x ⊕ d
xors-at n p x d h = xors-change n x (plus x (at p d)) p d h (rw (eq-eqb p p refl)) (λ j l m. rw (ne_eqb j p m) (xor-false (x j)))

-- the sum of the parties' broadcasts
pub xors-broadcast : (n : ℕ) (ma mb : Bool) (sa sb z o : Column)
    → xors n (broadcast ma mb sa sb z o) ≡ (ma && xors n sb) ⊕ (mb && xors n sa) ⊕ xors n z ⊕ xors n o
unfolding broadcast
xors-broadcast zero ma mb sa sb z o = simp (xors-zero, ring)
xors-broadcast (suc n) ma mb sa sb z o = simp xors-suc (rw (xors-broadcast n ma mb sa sb z o) (simp ring))

-- columns that agree but at party p
abbrev pub Others : ℕ → Column → Column → Type 0
Others p x y = (i : ℕ) → i ≢ p → x i ≡ y i

-- they are equal if they agree there too
pub all-agree : (p : ℕ) (x y : Column) → Others p x y → x p ≡ y p → x ≡ y
all-agree p x y h e = fun_ext (λ i. ⊎_elim (λ q. rw q e) (λ m. h i m) (eq-or-ne i p))

-- and they agree there if their sums are equal
pub sum_agrees : (n p : ℕ) (x y : Column) → p < n → Others p x y → xors n x ≡ xors n y → x p ≡ y p
sum_agrees n p x y l h e =
    share-from-others n p x (xors n y) l e
    ∙ ap (λ (b : Bool). xors n y ⊕ b) (xors-without-cong n p x y (λ j m q. h j q))
    ∙ sym (share-from-others n p y (xors n y) l refl)
