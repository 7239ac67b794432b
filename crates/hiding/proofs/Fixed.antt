-- What is shown fixes the hidden party's bits.
-- Assumes nothing.
use mathlib.Core.Path.{◌≡◌, sym, ap, ap₂, ◌∙◌}
use mathlib.Core.Bool.{Bool, cond, ◌&&◌}
use mathlib.Core.List.{List, [], ◌∷◌}
use mathlib.Core.Logic.{⊎_elim}
use Prim.Native.Nat.{ℕ, zero, suc, ◌-◌, ◌<◌}
use lib.Dec.{eqb}
use native.Mathlib.Nat.{eq-or-lt_of_le}
use native.Mathlib.Omega.{arith}
use Rattle.bits.specs.Xor.{◌⊕◌, xors}
use Rattle.bits.proofs.Xor.{xor-self-left}
use Rattle.circuit.specs.Circuit.{Gate, xor, and, inv, put, ands}
use Rattle.plain.specs.Run.{Column, next, corrections, corrected, broadcast, as_sent, run}
use Rattle.plain.specs.Showing.{row_bits}
use Rattle.hiding.proofs.Columns.{Others, all-agree, sum_agrees}
use Rattle.hiding.proofs.Masked.{bit}

-- an XOR with one part known
pub cancel : (a b c : Bool) → a ⊕ b ≡ a ⊕ c → b ≡ c
cancel a b c e = sym (xor-self-left a b) ∙ ap (λ (x : Bool). a ⊕ x) e ∙ xor-self-left a c

-- party p's broadcast fixes its output mask
sent-fixes : (p : ℕ) (ma mb : Bool) (sa sb z o o' : Column) → broadcast ma mb sa sb z o p ≡ broadcast ma mb sa sb z o' p → o p ≡ o' p
unfolding broadcast
sent-fixes p ma mb sa sb z o o' e = cancel ((ma && sb p) ⊕ (mb && sa p) ⊕ z p) (o p) (o' p) e

-- two equal lists
module _ {x y : Bool} {xs ys : List Bool} (e : x ∷ xs ≡ y ∷ ys) where
  -- have equal heads
  pub head-eq : x ≡ y
  head-eq = cc

  -- and equal tails
  pub tail-eq : xs ≡ ys
  tail-eq = cc

-- two streams equal at the first place and, below n places, at the next
both : (n p : ℕ) (o o' z z' : ℕ → Column) → o 0 p ≡ o' 0 p → z 0 p ≡ z' 0 p
    → ((k : ℕ) → k < n → (o (suc k) p ≡ o' (suc k) p) × (z (suc k) p ≡ z' (suc k) p))
    → (k : ℕ) → k < suc n → (o k p ≡ o' k p) × (z k p ≡ z' k p)
both n p o o' z z' e f r zero h = (e, f)
both n p o o' z z' e f r (suc k) h = r k (omega arith)

-- the corrections, if shown, and party p's row fix its product shares and output masks
pub row-fixes : (n p : ℕ) → p < n → (outs : List ℕ) (gs : List Gate) (o o' z z' s : ℕ → Column) (m : ℕ → Bool)
    → ((k : ℕ) → Others p (o k) (o' k)) → ((k : ℕ) → Others p (z k) (z' k)) → (suc p ≡ n → (k : ℕ) → z k p ≡ z' k p)
    → (suc p < n → corrections n gs o z s ≡ corrections n gs o' z' s)
    → row_bits (run n outs gs o (corrected n (bit (corrections n gs o z s)) z) as_sent s m) p
    ≡ row_bits (run n outs gs o' (corrected n (bit (corrections n gs o' z' s)) z') as_sent s m) p
    → (k : ℕ) → k < ands gs → (o k p ≡ o' k p) × (z k p ≡ z' k p)
unfolding run corrections corrected row_bits ands
row-fixes n p l outs [] o o' z z' s m ho hz hl ec er = λ k h. absurd (omega arith)
row-fixes n p l outs (xor a b c ∷ gs) o o' z z' s m ho hz hl ec er = row-fixes n p l outs gs o o' z z' _ _ ho hz hl ec er
row-fixes n p l outs (and a b c ∷ gs) o o' z z' s m ho hz hl ec er =
    let zp : z 0 p ≡ z' 0 p =
    ⊎_elim (λ e. hl e 0)
    (λ h. sum_agrees (n - 1) p (z 0) (z' 0) (omega arith) (hz 0) (cancel (xors n (s a) && xors n (s b)) _ _ (head-eq (ec h))))
    (eq-or-lt_of_le l) in
    let z0 : z 0 ≡ z' 0 = all-agree p (z 0) (z' 0) (hz 0) zp in
    let op : o 0 p ≡ o' 0 p =
    sent-fixes p (m a) (m b) (s a) (s b) (first (z' 0)) (o 0) (o' 0)
    (ap (λ (y : Column). broadcasts y (o 0) p) (sym z0) ∙ head-eq er) in
    let o0 : o 0 ≡ o' 0 = all-agree p (o 0) (o' 0) (ho 0) op in
    both (ands gs) p o o' z z' op zp
    (row-fixes n p l outs gs (next o) (next o') (next z) (next z') (put s c (o 0)) (put m c ((m a && m b) ⊕ xors n (broadcasts (z 0) (o 0))))
    (λ k. ho (suc k)) (λ k. hz (suc k)) (λ e k. hl e (suc k)) (λ h. rw (← o0) at (tail-eq (ec h)))
    (rw (← (ap₂ broadcasts z0 o0), ← o0) at (tail-eq er)))
  where
    first : Column → Column
    first y i = cond (eqb (suc i) n) ((xors n (s a) && xors n (s b)) ⊕ xors (n - 1) y) (y i)

    broadcasts : Column → Column → Column
    broadcasts y w = broadcast (m a) (m b) (s a) (s b) (first y) w
row-fixes n p l outs (inv a c ∷ gs) o o' z z' s m ho hz hl ec er = row-fixes n p l outs gs o o' z z' _ _ ho hz hl ec er
