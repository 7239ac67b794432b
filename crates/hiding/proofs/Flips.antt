-- One party's bits changed so that another witness shows the same: the changes, gate by gate, and what they keep.
-- Assumes nothing.
use mathlib.Core.Path.{◌≡◌, refl, ap, ap₂, ◌∙◌, fun_ext}
use mathlib.Core.Bool.{Bool, true, false, not, cond, ◌&&◌}
use mathlib.Core.List.{List, [], ◌∷◌, ◌++◌, map}
use mathlib.Core.Logic.{⊎_elim}
use Prim.Native.Nat.{ℕ, zero, suc, ◌-◌, ◌≤◌, ◌<◌}
use native.Mathlib.Nat.{eq-or-lt_of_le}
use lib.Dec.{eqb}
use lib.ListN.{length}
use native.Mathlib.Omega.{arith}
use borrow.Author.Tests.{eq-eqb, ne_eqb, eqb-true, eqb-false}
use Rattle.bits.specs.Xor.{◌⊕◌, xors}
use Rattle.bits.proofs.Xor.{ring}
use Rattle.circuit.specs.Circuit.{Gate, xor, and, inv, put, ands, eval_gates}
use Rattle.plain.specs.Run.{Column, next, plus, corrections, corrected, broadcast, as_sent, outputs, run}
use Rattle.plain.specs.Showing.{row_bits}
use Rattle.hiding.proofs.Columns.{at, xors-at}
use Rattle.hiding.proofs.Masked.{bit, Masked, masked-xor, masked_and, masked-inv}

-- the columns o with party p's bits changed by d
abbrev pub turn : ℕ → (ℕ → Column) → (ℕ → Bool) → ℕ → Column
turn p o d k = plus (o k) (at p (d k))

-- the shares s with party p's changed where the values v and u differ
abbrev pub shift : ℕ → (ℕ → Column) → (ℕ → Bool) → (ℕ → Bool) → ℕ → Column
shift p s v u = turn p s (plus v u)

-- one wire written
put-shift : (p : ℕ) (s : ℕ → Column) (v u : ℕ → Bool) (c : ℕ) (x : Column) (a b : Bool)
    → put (shift p s v u) c (plus x (at p (a ⊕ b))) ≡ shift p (put s c x) (put v c a) (put u c b)
unfolding put
put-shift p s v u c x a b = fun_ext (λ w. fun_ext (λ i. go w i (eqb w c)))
  where
    go : (w i : ℕ) (t : Bool)
        → cond t (plus x (at p (a ⊕ b))) (shift p s v u w) i ≡ cond t x (s w) i ⊕ (eqb i p && (cond t a (v w) ⊕ cond t b (u w)))
    go w i true = refl
    go w i false = refl

module _ (p : ℕ) (s : ℕ → Column) (v u : ℕ → Bool) (a b c : ℕ) where
  -- by an XOR gate
  shift-xor : put (shift p s v u) c (plus (shift p s v u a) (shift p s v u b))
      ≡ shift p (put s c (plus (s a) (s b))) (put v c (v a ⊕ v b)) (put u c (u a ⊕ u b))
  shift-xor =
      ap (λ (x : Column). put (shift p s v u) c x) (fun_ext (λ i. simp ring))
      ∙ put-shift p s v u c (plus (s a) (s b)) (v a ⊕ v b) (u a ⊕ u b)

  -- by an INV gate
  shift-inv : put (shift p s v u) c (shift p s v u a) ≡ shift p (put s c (s a)) (put v c (not (v a))) (put u c (not (u a)))
  shift-inv =
      ap (λ (x : Column). put (shift p s v u) c x) (fun_ext (λ i. simp ring))
      ∙ put-shift p s v u c (s a) (not (v a)) (not (u a))

-- the changes of the output masks: where the values of an AND gate differ
unfoldable pub mask_flips : List Gate → (ℕ → Bool) → (ℕ → Bool) → List Bool
mask_flips [] v u = []
mask_flips (xor a b c ∷ gs) v u = mask_flips gs (put v c (v a ⊕ v b)) (put u c (u a ⊕ u b))
mask_flips (and a b c ∷ gs) v u = ((v a && v b) ⊕ (u a && u b)) ∷ mask_flips gs (put v c (v a && v b)) (put u c (u a && u b))
mask_flips (inv a c ∷ gs) v u = mask_flips gs (put v c (not (v a))) (put u c (not (u a)))

-- the change of a product of masks x and y that change by d and e
abbrev pub product_flip : Bool → Bool → Bool → Bool → Bool
product_flip x y d e = (x && y) ⊕ ((x ⊕ d) && (y ⊕ e))

-- the changes of the product shares
unfoldable pub product_flips : ℕ → List Gate → (ℕ → Column) → (ℕ → Column) → (ℕ → Bool) → (ℕ → Bool) → List Bool
product_flips n [] o s v u = []
product_flips n (xor a b c ∷ gs) o s v u = product_flips n gs o (put s c (plus (s a) (s b))) (put v c (v a ⊕ v b)) (put u c (u a ⊕ u b))
product_flips n (and a b c ∷ gs) o s v u =
    product_flip (xors n (s a)) (xors n (s b)) (v a ⊕ u a) (v b ⊕ u b)
    ∷ product_flips n gs (next o) (put s c (o 0)) (put v c (v a && v b)) (put u c (u a && u b))
product_flips n (inv a c ∷ gs) o s v u = product_flips n gs o (put s c (s a)) (put v c (not (v a))) (put u c (not (u a)))

-- one change of an output mask for each AND gate
pub length-mask_flips : (gs : List Gate) (v u : ℕ → Bool) → length (mask_flips gs v u) ≡ ands gs
unfolding mask_flips ands
length-mask_flips [] v u = refl
length-mask_flips (xor a b c ∷ gs) v u = length-mask_flips gs _ _
length-mask_flips (and a b c ∷ gs) v u = ap suc (length-mask_flips gs _ _)
length-mask_flips (inv a c ∷ gs) v u = length-mask_flips gs _ _

-- one change of a product share for each AND gate
pub length-product_flips : (n : ℕ) (gs : List Gate) (o s : ℕ → Column) (v u : ℕ → Bool) → length (product_flips n gs o s v u) ≡ ands gs
unfolding product_flips ands
length-product_flips n [] o s v u = refl
length-product_flips n (xor a b c ∷ gs) o s v u = length-product_flips n gs _ _ _ _
length-product_flips n (and a b c ∷ gs) o s v u = ap suc (length-product_flips n gs _ _ _ _)
length-product_flips n (inv a c ∷ gs) o s v u = length-product_flips n gs _ _ _ _

-- with all changes of a party before the last, the corrections stay
pub corrections-stay : (n p : ℕ) (h : suc p < n) (gs : List Gate) (rest : List Bool) (o z s : ℕ → Column) (v u : ℕ → Bool)
    → corrections n gs (turn p o (bit (mask_flips gs v u ++ rest))) (turn p z (bit (product_flips n gs o s v u))) (shift p s v u)
    ≡ corrections n gs o z s
unfolding corrections mask_flips product_flips
corrections-stay n p h [] rest o z s v u = refl
corrections-stay n p h (xor a b c ∷ gs) rest o z s v u = rw (shift-xor p s v u a b c) (corrections-stay n p h gs rest o z _ _ _)
corrections-stay n p h (and a b c ∷ gs) rest o z s v u =
    rw (put-shift p s v u c (o 0) (v a && v b) (u a && u b))
    (ap₂ ◌∷◌
    (rw (
      xors-at n p (s a) (v a ⊕ u a) (omega arith),
      xors-at n p (s b) (v b ⊕ u b) (omega arith),
      xors-at (n - 1) p (z 0) (product_flip (xors n (s a)) (xors n (s b)) (v a ⊕ u a) (v b ⊕ u b)) (omega arith),
    )
    (simp ring))
    (corrections-stay n p h gs rest (next o) (next z) _ _ _))
corrections-stay n p h (inv a c ∷ gs) rest o z s v u = rw (shift-inv p s v u a a c) (corrections-stay n p h gs rest o z _ _ _)

-- with no change of product shares, the corrections change as these would
pub corrections-change : (n p : ℕ) (h : p < n) (gs : List Gate) (rest : List Bool) (o z s : ℕ → Column) (v u : ℕ → Bool) (k : ℕ)
    → bit (corrections n gs (turn p o (bit (mask_flips gs v u ++ rest))) z (shift p s v u)) k
    ≡ bit (corrections n gs o z s) k ⊕ bit (product_flips n gs o s v u) k
unfolding corrections mask_flips product_flips
corrections-change n p h [] rest o z s v u k = refl
corrections-change n p h (xor a b c ∷ gs) rest o z s v u k = rw (shift-xor p s v u a b c) (corrections-change n p h gs rest o z _ _ _ k)
corrections-change n p h (and a b c ∷ gs) rest o z s v u zero =
    rw (xors-at n p (s a) (v a ⊕ u a) h, xors-at n p (s b) (v b ⊕ u b) h) (simp ring)
corrections-change n p h (and a b c ∷ gs) rest o z s v u (suc k) =
    rw (put-shift p s v u c (o 0) (v a && v b) (u a && u b)) (corrections-change n p h gs rest (next o) (next z) _ _ _ k)
corrections-change n p h (inv a c ∷ gs) rest o z s v u k = rw (shift-inv p s v u a a c) (corrections-change n p h gs rest o z _ _ _ k)

-- the product shares of a party before the last are the tape's
corrected-before : (n p : ℕ) → suc p < n → (cs : ℕ → Bool) (z : ℕ → Column) (d : ℕ → Bool)
    → corrected n cs (turn p z d) ≡ turn p (corrected n cs z) d
unfolding corrected
corrected-before n p h cs z d = fun_ext (λ k. fun_ext (λ i. go k i (eqb (suc i) n) refl))
  where
    go : (k i : ℕ) (t : Bool) → eqb (suc i) n ≡ t
        → cond t (cs k) (z k i ⊕ (eqb i p && d k)) ≡ cond t (cs k) (z k i) ⊕ (eqb i p && d k)
    go k i true e = rw (ne_eqb i p (λ f. omega (arith, eqb-true (suc i) n e))) (simp ring)
    go k i false e = refl

-- those of the last are the corrections
corrected-last : (n p : ℕ) → suc p ≡ n → (cs ds : ℕ → Bool) (z : ℕ → Column) (d : ℕ → Bool) → ((k : ℕ) → cs k ≡ ds k ⊕ d k)
    → corrected n cs z ≡ turn p (corrected n ds z) d
unfolding corrected
corrected-last n p h cs ds z d f = fun_ext (λ k. fun_ext (λ i. go k i (eqb (suc i) n) refl))
  where
    go : (k i : ℕ) (t : Bool) → eqb (suc i) n ≡ t → cond t (cs k) (z k i) ≡ cond t (ds k) (z k i) ⊕ (eqb i p && d k)
    go k i true e = rw (eq-eqb i p (omega (arith, eqb-true (suc i) n e))) (f k)
    go k i false e = rw (ne_eqb i p (λ g. eqb-false (suc i) n e (omega arith))) (simp ring)

-- party p's shares of wires with equal values
outputs-stay : (n p : ℕ) (s : ℕ → Column) (v u m : ℕ → Bool) (ws : List ℕ) → map v ws ≡ map u ws
    → row_bits (outputs n ws as_sent (shift p s v u) m) p ≡ row_bits (outputs n ws as_sent s m) p
unfolding outputs row_bits
outputs-stay n p s v u m [] e = refl
outputs-stay n p s v u m (w ∷ ws) e =
    let e0 : v w ≡ u w = cc in
    let e1 : map v ws ≡ map u ws = cc in
    ap₂ ◌∷◌ (rw e0 (simp ring)) (outputs-stay n p s v u m ws e1)

-- the parties' broadcasts at an AND gate of values va and vb, or ua and ub, and masks x and y
sent-stays : (p : ℕ) (sa sb z o : Column) (va vb ua ub x y : Bool)
    → broadcast (va ⊕ x) (vb ⊕ y) (plus sa (at p (va ⊕ ua))) (plus sb (at p (vb ⊕ ub)))
    (plus z (at p (product_flip x y (va ⊕ ua) (vb ⊕ ub)))) (plus o (at p ((va && vb) ⊕ (ua && ub))))
    ≡ broadcast (va ⊕ x) (vb ⊕ y) sa sb z o
unfolding broadcast
sent-stays p sa sb z o va vb ua ub x y = fun_ext (λ i. simp ring)

-- with all changes, party p's row stays
pub row_stays : (n p : ℕ) (h : 1 ≤ n) (outs : List ℕ) (gs : List Gate) (rest : List Bool) (o z s : ℕ → Column) (v u m : ℕ → Bool)
    → Masked n s v m → map (eval_gates gs v) outs ≡ map (eval_gates gs u) outs
    → row_bits (run n outs gs (turn p o (bit (mask_flips gs v u ++ rest)))
    (turn p (corrected n (bit (corrections n gs o z s)) z) (bit (product_flips n gs o s v u))) as_sent (shift p s v u) m) p
    ≡ row_bits (run n outs gs o (corrected n (bit (corrections n gs o z s)) z) as_sent s m) p
unfolding run corrections corrected eval_gates mask_flips product_flips row_bits
row_stays n p h outs [] rest o z s v u m g e = outputs-stay n p s v u m outs e
row_stays n p h outs (xor a b c ∷ gs) rest o z s v u m g e =
    rw (shift-xor p s v u a b c, run) (row_stays n p h outs gs rest o z _ _ _ _ (masked-xor n s v m g a b c) e)
row_stays n p h outs (and a b c ∷ gs) rest o z s v u m g e =
    let cs : ℕ → Bool = bit (corrections n (and a b c ∷ gs) o z s) in
    let x : Bool = xors n (s a) in
    let y : Bool = xors n (s b) in
    let same : broadcast (m a) (m b) (shift p s v u a) (shift p s v u b) (plus (corrected n cs z 0) (at p (product_flip x y (v a ⊕ u a) (v b ⊕ u b))))
    (plus (o 0) (at p ((v a && v b) ⊕ (u a && u b)))) ≡ broadcast (m a) (m b) (s a) (s b) (corrected n cs z 0) (o 0) =
    rw (g a, g b) (sent-stays p (s a) (s b) (corrected n cs z 0) (o 0) (v a) (v b) (u a) (u b) x y) in
    rw (put-shift p s v u c (o 0) (v a && v b) (u a && u b), same)
    (ap₂ ◌∷◌ refl
    (row_stays n p h outs gs rest (next o) (next z) _ _ _ _ (masked_and n s v m g a b c h cs z (o 0) refl) e))
row_stays n p h outs (inv a c ∷ gs) rest o z s v u m g e =
    rw (shift-inv p s v u a a c, run) (row_stays n p h outs gs rest o z _ _ _ _ (masked-inv n s v m g a a c) e)

-- columns changed so, where the last party has no changes of product shares
module _ (n p : ℕ) (l : p < n) (gs : List Gate) (rest : List Bool) (o z s o' z' s' : ℕ → Column) (v u : ℕ → Bool)
    (rest-last : suc p ≡ n → rest ≡ []) (rest-before : suc p < n → rest ≡ product_flips n gs o s v u)
    (eo : o' ≡ turn p o (bit (mask_flips gs v u ++ rest))) (ez : z' ≡ turn p z (bit rest)) (es : s' ≡ shift p s v u) where
  -- the product shares of a party before the last
  products-before : suc p < n → z' ≡ turn p z (bit (product_flips n gs o s v u))
  products-before h = ez ∙ ap (λ (x : List Bool). turn p z (bit x)) (rest-before h)

  -- the last party's
  products-last : suc p ≡ n → z' ≡ z
  products-last h = ez ∙ ap (λ (x : List Bool). turn p z (bit x)) (rest-last h) ∙ fun_ext (λ k. fun_ext (λ i. simp ring))

  -- the corrections stay, if p is not the last
  pub corrections-kept : suc p < n → corrections n gs o' z' s' ≡ corrections n gs o z s
  corrections-kept h = (λ j. corrections n gs (eo j) (products-before h j) (es j)) ∙ corrections-stay n p h gs rest o z s v u

  -- in both cases the product shares with the corrections change by the product flips
  products-kept : corrected n (bit (corrections n gs o' z' s')) z'
      ≡ turn p (corrected n (bit (corrections n gs o z s)) z) (bit (product_flips n gs o s v u))
  products-kept =
      ⊎_elim
      (λ h. (λ j. corrected n (bit (corrections n gs (eo j) (products-last h j) (es j))) (products-last h j))
      ∙ corrected-last n p h _ (bit (corrections n gs o z s)) z (bit (product_flips n gs o s v u)) (corrections-change n p l gs rest o z s v u))
      (λ h. (λ j. corrected n (bit (corrections-kept h j)) (products-before h j))
      ∙ corrected-before n p h (bit (corrections n gs o z s)) z (bit (product_flips n gs o s v u)))
      (eq-or-lt_of_le l)

  -- and the row stays
  pub row_kept : (outs : List ℕ) (m : ℕ → Bool) → Masked n s v m → map (eval_gates gs v) outs ≡ map (eval_gates gs u) outs
      → row_bits (run n outs gs o' (corrected n (bit (corrections n gs o' z' s')) z') as_sent s' m) p
      ≡ row_bits (run n outs gs o (corrected n (bit (corrections n gs o z s)) z) as_sent s m) p
  row_kept outs m g e = (λ j. row_bits (run n outs gs (eo j) (products-kept j) as_sent (es j) m) p) ∙ row_stays n p (omega arith) outs gs rest o z s v u m g e
