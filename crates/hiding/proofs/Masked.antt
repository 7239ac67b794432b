-- A wire's masked value is its value XOR its mask, from gate to gate; so the run's output is the circuit's.
-- Assumes nothing.
use mathlib.Core.Path.{◌≡◌, refl, ap₂, ◌∙◌}
use mathlib.Core.Bool.{Bool, true, false, not, cond, ◌&&◌}
use mathlib.Core.List.{List, [], ◌∷◌, map}
use Prim.Native.Nat.{ℕ, zero, suc, ◌-◌, ◌≤◌}
use lib.Dec.{eqb}
use lib.ListN.{get_or, take}
use native.Mathlib.Omega.{arith}
use borrow.Author.Tests.{eq-eqb, ne_eqb}
use Rattle.bits.specs.Xor.{◌⊕◌, xors}
use Rattle.bits.proofs.Xor.{ring, xors-suc, xors-xor, xors-cong}
use Rattle.circuit.specs.Circuit.{Gate, xor, and, inv, put, eval_gates}
use Rattle.plain.specs.Run.{Column, next, plus, corrections, corrected, broadcast, as_sent, outputs, run}
use Rattle.hiding.specs.Laws.{after}
use Rattle.hiding.proofs.Columns.{xors-broadcast}

-- bit k of a list, false beyond its end
abbrev pub bit : List Bool → ℕ → Bool
bit l k = get_or l k false

-- n parties, shares s of the masks, values v and masked values m
abbrev pub Masked : ℕ → (ℕ → Column) → (ℕ → Bool) → (ℕ → Bool) → Type 0
Masked n s v m = (w : ℕ) → m w ≡ v w ⊕ xors n (s w)

-- one wire written
masked-put : (n : ℕ) (s : ℕ → Column) (v m : ℕ → Bool) (c : ℕ) (x : Column) (a b : Bool)
    → Masked n s v m → b ≡ a ⊕ xors n x → Masked n (put s c x) (put v c a) (put m c b)
unfolding put
masked-put n s v m c x a b g e w = go (eqb w c)
  where
    go : (t : Bool) → cond t b (m w) ≡ cond t a (v w) ⊕ xors n (cond t x (s w))
    go true = e
    go false = g w

-- the product shares, with the correction as the last party's, sum to the product
corrected-sum : (n : ℕ) → 1 ≤ n → (x y : Bool) (cs : ℕ → Bool) (z : ℕ → Column) → cs 0 ≡ (x && y) ⊕ xors (n - 1) (z 0)
    → xors n (corrected n cs z 0) ≡ x && y
unfolding corrected
corrected-sum zero h x y cs z e = absurd (omega arith)
corrected-sum (suc q) h x y cs z e =
    let one : suc q - 1 ≡ q = omega arith in
    xors-suc q (corrected (suc q) cs z 0)
    ∙ rw (
      eq-eqb (suc q) (suc q) refl,
      xors-cong q (corrected (suc q) cs z 0) (z 0) (λ i l. rw (ne_eqb (suc i) (suc q) (λ e. omega arith))),
      e,
      one,
    )
    (simp ring)

module _ (n : ℕ) (s : ℕ → Column) (v m : ℕ → Bool) (g : Masked n s v m) (a b c : ℕ) where
  -- after an XOR gate
  pub masked-xor : Masked n (put s c (plus (s a) (s b))) (put v c (v a ⊕ v b)) (put m c (m a ⊕ m b))
  masked-xor = masked-put n s v m c _ _ _ g (rw (g a, g b, xors-xor n (s a) (s b)) (simp ring))

  -- after an INV gate
  pub masked-inv : Masked n (put s c (s a)) (put v c (not (v a))) (put m c (not (m a)))
  masked-inv = masked-put n s v m c _ _ _ g (rw (g a) (simp ring))

  -- after an AND gate, with product shares z and the right correction
  pub masked_and : 1 ≤ n → (cs : ℕ → Bool) (z : ℕ → Column) (o : Column) → cs 0 ≡ (xors n (s a) && xors n (s b)) ⊕ xors (n - 1) (z 0)
      → Masked n (put s c o) (put v c (v a && v b)) (put m c ((m a && m b) ⊕ xors n (broadcast (m a) (m b) (s a) (s b) (corrected n cs z 0) o)))
  masked_and h cs z o e =
      masked-put n s v m c _ _ _ g
      (rw (xors-broadcast n (m a) (m b) (s a) (s b) (corrected n cs z 0) o, corrected-sum n h (xors n (s a)) (xors n (s b)) cs z e, g a, g b) (simp ring))

-- the outputs are the values
outputs-evaluate : (n : ℕ) (ws : List ℕ) (s : ℕ → Column) (v m : ℕ → Bool) → Masked n s v m → (outputs n ws as_sent s m).output ≡ map v ws
unfolding outputs
outputs-evaluate n [] s v m g = refl
outputs-evaluate n (w ∷ ws) s v m g = ap₂ ◌∷◌ (rw (g w) (simp ring)) (outputs-evaluate n ws s v m g)

-- with right corrections the run gives the circuit's output
pub run-output : (n : ℕ) → 1 ≤ n → (outs : List ℕ) (gs : List Gate) (o z s : ℕ → Column) (v m : ℕ → Bool) → Masked n s v m
    → (run n outs gs o (corrected n (bit (corrections n gs o z s)) z) as_sent s m).output ≡ map (eval_gates gs v) outs
unfolding run corrections corrected eval_gates
run-output n h outs [] o z s v m g = outputs-evaluate n outs s v m g
run-output n h outs (xor a b c ∷ gs) o z s v m g = run-output n h outs gs o z _ _ _ (masked-xor n s v m g a b c)
run-output n h outs (and a b c ∷ gs) o z s v m g =
    run-output n h outs gs (next o) (next z) _ _ _ (masked_and n s v m g a b c h (bit (corrections n (and a b c ∷ gs) o z s)) z (o 0) refl)
run-output n h outs (inv a c ∷ gs) o z s v m g = run-output n h outs gs o z _ _ _ (masked-inv n s v m g a a c)

-- and after any number of gates each masked value is the value XOR the mask
pub after-masked : (n : ℕ) → 1 ≤ n → (gs : List Gate) (k : ℕ) (o z s : ℕ → Column) (v m : ℕ → Bool) → Masked n s v m
    → Masked n (after n (take k gs) o (corrected n (bit (corrections n gs o z s)) z) s m).share (eval_gates (take k gs) v)
    (after n (take k gs) o (corrected n (bit (corrections n gs o z s)) z) s m).masked
unfolding after corrections corrected eval_gates
after-masked n h [] zero o z s v m g = g
after-masked n h [] (suc k) o z s v m g = g
after-masked n h (x ∷ gs) zero o z s v m g = g
after-masked n h (xor a b c ∷ gs) (suc k) o z s v m g = after-masked n h gs k o z _ _ _ (masked-xor n s v m g a b c)
after-masked n h (and a b c ∷ gs) (suc k) o z s v m g =
    after-masked n h gs k (next o) (next z) _ _ _ (masked_and n s v m g a b c h (bit (corrections n (and a b c ∷ gs) o z s)) z (o 0) refl)
after-masked n h (inv a c ∷ gs) (suc k) o z s v m g = after-masked n h gs k o z _ _ _ (masked-inv n s v m g a a c)
