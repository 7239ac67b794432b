-- The joined circuit evaluates as the first and then as the second.
-- Assumes nothing.
use mathlib.Core.Path.{◌≡◌, refl, sym, ap, ap₂, ◌∙◌}
use mathlib.Core.Bool.{Bool, true, not, ◌&&◌}
use mathlib.Core.List.{List, [], ◌∷◌, ◌++◌, map}
use mathlib.Core.Logic.{◌≢◌, ◌⊎◌, inl, inr, ⊎_elim}
use Prim.Native.Nat.{ℕ, suc, ◌+◌, ◌≤◌}
use native.Mathlib.Omega.{arith}
use Rattle.bits.specs.Counting.{count}
use Rattle.bits.specs.Xor.{◌⊕◌}
use Rattle.bits.proofs.Counting.{count-nil, count-here, count-other}
use Rattle.bits.proofs.Numbers.{eq-or-ne}
use Rattle.bits.proofs.Tests.{and-true-left, and-true-right}
use Rattle.circuit.specs.Circuit.{Gate, xor, and, inv, put, ands, eval_gates}
use Rattle.circuit.specs.Fields.{reads_written}
use Rattle.circuit.specs.Meaning.{writes}
use Rattle.circuit.proofs.Slots.{put_same, put_other}
use Rattle.join.specs.Theorem.{moved_gate}

-- gates after others
pub evaluate-append : (gs hs : List Gate) (v : ℕ → Bool) → eval_gates (gs ++ hs) v ≡ eval_gates hs (eval_gates gs v)
unfolding eval_gates
evaluate-append [] hs v = refl
evaluate-append (xor a b c ∷ gs) hs v = evaluate-append gs hs (put v c (v a ⊕ v b))
evaluate-append (and a b c ∷ gs) hs v = evaluate-append gs hs (put v c (v a && v b))
evaluate-append (inv a c ∷ gs) hs v = evaluate-append gs hs (put v c (not (v a)))

-- the AND gates of both, moved or not
pub ands-append : (gs hs : List Gate) → ands (gs ++ hs) ≡ ands gs + ands hs
unfolding ands
ands-append [] hs = omega arith
ands-append (xor a b c ∷ gs) hs = ands-append gs hs
ands-append (and a b c ∷ gs) hs = omega (arith, ands-append gs hs)
ands-append (inv a c ∷ gs) hs = ands-append gs hs

pub ands-moved : (up : ℕ → ℕ) (gs : List Gate) → ands (map (moved_gate up) gs) ≡ ands gs
unfolding ands moved_gate
ands-moved up [] = refl
ands-moved up (xor a b c ∷ gs) = ands-moved up gs
ands-moved up (and a b c ∷ gs) = ap suc (ands-moved up gs)
ands-moved up (inv a c ∷ gs) = ands-moved up gs

-- a wire that is not the first of some is as often among the others
after : (w c : ℕ) (l : List ℕ) → count w (c ∷ l) ≡ 0 → (w ≢ c) × (count w l ≡ 0)
after w c l e =
    let n : w ≢ c = λ q. omega (arith, count-here w c l q) in
    (n, omega (arith, count-other w c l n))

-- a wire that no gate writes keeps its value
pub kept : (gs : List Gate) (v : ℕ → Bool) (w : ℕ) → count w (writes gs) ≡ 0 → eval_gates gs v w ≡ v w
unfolding eval_gates writes
kept [] v w e = refl
kept (xor a b c ∷ gs) v w e = let p = after w c (writes gs) e in kept gs (put v c (v a ⊕ v b)) w p.1 ∙ put_other v c (v a ⊕ v b) w p.0
kept (and a b c ∷ gs) v w e = let p = after w c (writes gs) e in kept gs (put v c (v a && v b)) w p.1 ∙ put_other v c (v a && v b) w p.0
kept (inv a c ∷ gs) v w e = let p = after w c (writes gs) e in kept gs (put v c (not (v a))) w p.1 ∙ put_other v c (not (v a)) w p.0

module _ (up : ℕ → ℕ) (one : (a b : ℕ) → up a ≡ up b → a ≡ b) where
  -- where the wires that are written have the same values, moved
  abbrev Same : (ℕ → Bool) → (ℕ → Bool) → (ℕ → Bool) → Type 0
  Same written v u = (w : ℕ) → written w ≡ true → u (up w) ≡ v w

  -- one wire more is written
  same-on : (written v u : ℕ → Bool) (c : ℕ) (x y : Bool) → x ≡ y → Same written v u → Same (put written c true) (put v c y) (put u (up c) x)
  same-on written v u c x y e h w t =
      ⊎_elim
      (λ (q : w ≡ c). ap (λ (j : ℕ). put u (up c) x (up j)) q ∙ put_same u (up c) x ∙ e ∙ sym (ap (put v c y) q ∙ put_same v c y))
      (λ n. put_other u (up c) x (up w) (λ q. n (one w c q)) ∙ h w (sym (put_other written c true w n) ∙ t) ∙ sym (put_other v c y w n))
      (eq-or-ne w c)

  -- a wire is written at first or by one of the gates
  abbrev Written : (ℕ → Bool) → List ℕ → ℕ → Type 0
  Written written l w = (written w ≡ true) ⊎ (1 ≤ count w l)

  written_on : (written : ℕ → Bool) (c : ℕ) (l : List ℕ) (w : ℕ) → Written written (c ∷ l) w → Written (put written c true) l w
  written_on written c l w o =
      ⊎_elim
      (λ (q : w ≡ c). inl (ap (put written c true) q ∙ put_same written c true))
      (λ n. ⊎_elim (λ t. inl (put_other written c true w n ∙ t)) (λ k. inr (omega (arith, count-other w c l n))) o)
      (eq-or-ne w c)

  -- the gates with moved wires give the moved wires the same values
  pub same-values : (gs : List Gate) (written v u : ℕ → Bool) → Same written v u → reads_written written gs ≡ true
      → (w : ℕ) → Written written (writes gs) w → eval_gates (map (moved_gate up) gs) u (up w) ≡ eval_gates gs v w
  unfolding eval_gates moved_gate reads_written writes
  same-values [] written v u h t w o = ⊎_elim (λ e. h w e) (λ l. absurd (omega (arith, count-nil w))) o
  same-values (xor a b c ∷ gs) written v u h t w o =
      let i : written a && written b ≡ true = and-true-left _ (reads_written (put written c true) gs) t in
      let e : u (up a) ⊕ u (up b) ≡ v a ⊕ v b = ap₂ ◌⊕◌ (h a (and-true-left (written a) (written b) i)) (h b (and-true-right (written a) (written b) i)) in
      same-values gs (put written c true) (put v c (v a ⊕ v b)) (put u (up c) (u (up a) ⊕ u (up b))) (same-on written v u c _ _ e h)
      (and-true-right (written a && written b) (reads_written (put written c true) gs) t) w (written_on written c (writes gs) w o)
  same-values (and a b c ∷ gs) written v u h t w o =
      let i : written a && written b ≡ true = and-true-left _ (reads_written (put written c true) gs) t in
      let e : u (up a) && u (up b) ≡ v a && v b = ap₂ ◌&&◌ (h a (and-true-left (written a) (written b) i)) (h b (and-true-right (written a) (written b) i)) in
      same-values gs (put written c true) (put v c (v a && v b)) (put u (up c) (u (up a) && u (up b))) (same-on written v u c _ _ e h)
      (and-true-right (written a && written b) (reads_written (put written c true) gs) t) w (written_on written c (writes gs) w o)
  same-values (inv a c ∷ gs) written v u h t w o =
      let e : not (u (up a)) ≡ not (v a) = ap not (h a (and-true-left (written a) (reads_written (put written c true) gs) t)) in
      same-values gs (put written c true) (put v c (not (v a))) (put u (up c) (not (u (up a)))) (same-on written v u c _ _ e h)
      (and-true-right (written a) (reads_written (put written c true) gs) t) w (written_on written c (writes gs) w o)

  -- moved gates write moved wires
  pub writes-moved : (gs : List Gate) → writes (map (moved_gate up) gs) ≡ map up (writes gs)
  unfolding writes moved_gate
  writes-moved [] = refl
  writes-moved (xor a b c ∷ gs) = ap (λ (l : List ℕ). up c ∷ l) (writes-moved gs)
  writes-moved (and a b c ∷ gs) = ap (λ (l : List ℕ). up c ∷ l) (writes-moved gs)
  writes-moved (inv a c ∷ gs) = ap (λ (l : List ℕ). up c ∷ l) (writes-moved gs)
