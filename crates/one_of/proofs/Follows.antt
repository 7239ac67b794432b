-- Gates that write one wire after the other and read lower ones: their values, and that they pass the test of the wires; and gates that
-- stand behind others.
-- Assumes nothing.
use mathlib.Core.Path.{◌≡◌, refl, sym, ap, ap₂, ◌∙◌}
use mathlib.Core.Bool.{Bool, true, not, ◌&&◌}
use mathlib.Core.List.{List, [], ◌∷◌, ◌++◌}
use mathlib.Core.Logic.{⊎_elim}
use Prim.Native.Nat.{ℕ, ◌+◌, ◌≤◌, ◌<◌}
use native.Mathlib.Omega.{arith}
use lib.ListN.{length}
use Rattle.bits.specs.Counting.{count}
use Rattle.bits.specs.Xor.{◌⊕◌}
use Rattle.bits.proofs.Counting.{count-other, count-nil}
use Rattle.bits.proofs.Numbers.{eq-or-ne}
use Rattle.bits.proofs.Tests.{and-true-left, and-true-right}
use Rattle.circuit.specs.Circuit.{Gate, xor, and, inv, put, ands, eval_gates}
use Rattle.circuit.specs.Fields.{reads_written}
use Rattle.circuit.specs.Meaning.{writes}
use Rattle.circuit.proofs.Slots.{put_same, put_other}

-- a gate that writes wire c and reads lower ones, where the wires have these values
unfoldable pub Fits : (ℕ → Bool) → ℕ → Gate → Type 0
Fits val c (xor a b d) = (d ≡ c) × ((a < c) × ((b < c) × (val c ≡ val a ⊕ val b)))
Fits val c (and a b d) = (d ≡ c) × ((a < c) × ((b < c) × (val c ≡ val a && val b)))
Fits val c (inv a d) = (d ≡ c) × ((a < c) × (val c ≡ not (val a)))

-- gates that write the wires from c on
unfoldable pub Follow : (ℕ → Bool) → ℕ → List Gate → Type 0
Follow val c [] = Unit {0}
Follow val c (g ∷ gs) = Fits val c g × Follow val (c + 1) gs

module _ (val : ℕ → Bool) where
  -- values that agree below c do so below c + 1, with that of wire c
  put-agree : (v : ℕ → Bool) (c d : ℕ) (x : Bool) → d ≡ c → x ≡ val c → ((w : ℕ) → w < c → v w ≡ val w) → (w : ℕ) → w < c + 1 → put v d x w ≡ val w
  put-agree v c d x e f h w l =
      ⊎_elim
      (λ (q : w ≡ d). ap (put v d x) q ∙ put_same v d x ∙ f ∙ ap val (sym (q ∙ e)))
      (λ n. put_other v d x w n
      ∙ h w (⊎_elim (λ (z : w ≡ c). absurd (n (z ∙ sym e))) (λ z. ne-lt w c l z) (eq-or-ne w c)))
      (eq-or-ne w d)
    where
      ne-lt : (w c : ℕ) → w < c + 1 → (w ≡ c → ⊥) → w < c
      ne-lt w c l n = omega (arith, n)

  -- such gates give their wires these values
  pub follow-eval : (v : ℕ → Bool) (c : ℕ) (gs : List Gate) → Follow val c gs → ((w : ℕ) → w < c → v w ≡ val w)
      → (w : ℕ) → w < c + length gs → eval_gates gs v w ≡ val w
  unfolding Follow Fits eval_gates
  follow-eval v c [] f h w l = h w (omega arith)
  follow-eval v c (xor a b d ∷ gs) f h w l =
      let g = f.0 in
      follow-eval (put v d (v a ⊕ v b)) (c + 1) gs f.1
      (put-agree v c d _ g.0 (ap₂ ◌⊕◌ (h a g.1.0) (h b g.1.1.0) ∙ sym g.1.1.1) h) w (omega arith)
  follow-eval v c (and a b d ∷ gs) f h w l =
      let g = f.0 in
      follow-eval (put v d (v a && v b)) (c + 1) gs f.1
      (put-agree v c d _ g.0 (ap₂ ◌&&◌ (h a g.1.0) (h b g.1.1.0) ∙ sym g.1.1.1) h) w (omega arith)
  follow-eval v c (inv a d ∷ gs) f h w l =
      let g = f.0 in
      follow-eval (put v d (not (v a))) (c + 1) gs f.1 (put-agree v c d _ g.0 (ap not (h a g.1.0) ∙ sym g.1.1) h) w (omega arith)

-- what is written below c is written below c + 1, with wire c
put_written : (f : ℕ → Bool) (c d : ℕ) → d ≡ c → ((w : ℕ) → w < c → f w ≡ true) → (w : ℕ) → w < c + 1 → put f d true w ≡ true
put_written f c d e h = put-agree (λ _. true) f c d true e refl h

-- such gates read only what is written, where all wires below c are
pub follow-reads : (val f : ℕ → Bool) (c : ℕ) (gs : List Gate) → Follow val c gs → ((w : ℕ) → w < c → f w ≡ true) → reads_written f gs ≡ true
unfolding Follow Fits reads_written
follow-reads val f c [] t h = refl
follow-reads val f c (xor a b d ∷ gs) t h =
    let g = t.0 in
    rw (h a g.1.0, h b g.1.1.0) (follow-reads val (put f d true) (c + 1) gs t.1 (put_written f c d g.0 h))
follow-reads val f c (and a b d ∷ gs) t h =
    let g = t.0 in
    rw (h a g.1.0, h b g.1.1.0) (follow-reads val (put f d true) (c + 1) gs t.1 (put_written f c d g.0 h))
follow-reads val f c (inv a d ∷ gs) t h =
    let g = t.0 in
    rw (h a g.1.0) (follow-reads val (put f d true) (c + 1) gs t.1 (put_written f c d g.0 h))

-- gates behind others are evaluated after them
pub eval-append : (gs hs : List Gate) (v : ℕ → Bool) → eval_gates (gs ++ hs) v ≡ eval_gates hs (eval_gates gs v)
unfolding eval_gates
eval-append [] hs v = refl
eval-append (xor a b c ∷ gs) hs v = eval-append gs hs (put v c (v a ⊕ v b))
eval-append (and a b c ∷ gs) hs v = eval-append gs hs (put v c (v a && v b))
eval-append (inv a c ∷ gs) hs v = eval-append gs hs (put v c (not (v a)))

-- and their AND gates count too
pub ands-append : (gs hs : List Gate) → ands (gs ++ hs) ≡ ands gs + ands hs
unfolding ands
ands-append [] hs = omega arith
ands-append (xor a b c ∷ gs) hs = ands-append gs hs
ands-append (and a b c ∷ gs) hs = omega (arith, ands-append gs hs)
ands-append (inv a c ∷ gs) hs = ands-append gs hs

module _ (f : ℕ → Bool) (c : ℕ) (g : ℕ → Bool) (p : (w : ℕ) → put f c true w ≡ true → g w ≡ true) where
  -- what was written before wire c, and wire c, is written after it
  later : (w : ℕ) → f w ≡ true → g w ≡ true
  later w t = p w (⊎_elim (λ (e : w ≡ c). ap (put f c true) e ∙ put_same f c true) (λ n. put_other f c true w n ∙ t) (eq-or-ne w c))

  later-too : (l : List ℕ) → ((w : ℕ) → 1 ≤ count w l → g w ≡ true) → (w : ℕ) → 1 ≤ count w (c ∷ l) → g w ≡ true
  later-too l q w h =
      ⊎_elim
      (λ (e : w ≡ c). p w (ap (put f c true) e ∙ put_same f c true))
      (λ n. q w (rw (count-other w c l n) at h))
      (eq-or-ne w c)

-- they may read what was written at first and what the others write
pub reads-append : (f : ℕ → Bool) (gs hs : List Gate) → reads_written f gs ≡ true
    → ((g : ℕ → Bool) → ((w : ℕ) → f w ≡ true → g w ≡ true) → ((w : ℕ) → 1 ≤ count w (writes gs) → g w ≡ true) → reads_written g hs ≡ true)
    → reads_written f (gs ++ hs) ≡ true
unfolding reads_written writes
reads-append f [] hs t k = k f (λ w p. p) (λ w l. absurd (omega (arith, count-nil w)))
reads-append f (xor a b c ∷ gs) hs t k =
    let u = and-true-left (f a && f b) (reads_written (put f c true) gs) t in
    rw (and-true-left (f a) (f b) u, and-true-right (f a) (f b) u)
    (reads-append (put f c true) gs hs (and-true-right (f a && f b) (reads_written (put f c true) gs) t)
    (λ g p q. k g (later f c g p) (later-too f c g p (writes gs) q)))
reads-append f (and a b c ∷ gs) hs t k =
    let u = and-true-left (f a && f b) (reads_written (put f c true) gs) t in
    rw (and-true-left (f a) (f b) u, and-true-right (f a) (f b) u)
    (reads-append (put f c true) gs hs (and-true-right (f a && f b) (reads_written (put f c true) gs) t)
    (λ g p q. k g (later f c g p) (later-too f c g p (writes gs) q)))
reads-append f (inv a c ∷ gs) hs t k =
    rw (and-true-left (f a) (reads_written (put f c true) gs) t)
    (reads-append (put f c true) gs hs (and-true-right (f a) (reads_written (put f c true) gs) t)
    (λ g p q. k g (later f c g p) (later-too f c g p (writes gs) q)))
