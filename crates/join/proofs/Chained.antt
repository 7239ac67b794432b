-- The chain of the joined file: the first's, and then the second's with its slots moved up; and the gates along it.
-- Assumes nothing.
use mathlib.Core.Path.{◌≡◌, refl, sym, ap, ap₂, ◌∙◌}
use mathlib.Core.Bool.{Bool, true, false, cond}
use mathlib.Core.List.{List, ◌∷◌, ◌++◌, map}
use Prim.Native.Nat.{ℕ, zero, suc, ◌+◌, ◌-◌, ◌≤◌}
use native.Mathlib.Omega.{arith}
use borrow.Author.Tests.{eq-eqb, eqb-true, le-leb}
use lib.Dec.{eqb}
use Rattle.circuit.specs.Circuit.{Gate, xor, and, inv}
use Rattle.circuit.specs.Fields.{Fields, inputs_of, gates_of, head_of, kind_of, wire_a, wire_b, next_of, good_chain, chain_from, gate_at, gates_in_order}
use Rattle.circuit.specs.FieldSteps.{walks}
use Rattle.circuit.proofs.Slots.{Here, here}
use Rattle.circuit.proofs.Walking.{walked-chain}
use Rattle.building.specs.Files.{laid}
use Rattle.join.specs.Join.{moved_wire, moved_link, led_on, first_slot, second_slot, joined_parts}
use Rattle.join.specs.Theorem.{moved_gate}
use Rattle.join.proofs.Moved.{wire-slot, link-end, link_up, led-end, led-slot}
use Rattle.join.proofs.Places.{onward, joined-inputs, joined-gates, joined-head, first-slot, second-slot}

-- the slot in hand and the way after it, with one link less
rest : (s : Fields) (n k : ℕ) → Here s (suc n) k → walks s n (next_of s k) ≡ true
rest s n k h = let q : suc n - 1 ≡ n = omega arith in rw q at h.rest

-- a way of no links starts at the end
none_left : (s : Fields) (k : ℕ) → walks s 0 k ≡ true → k ≡ 0
unfolding walks
none_left s k t = eqb-true k 0 t

-- a way of one link more starts at a slot
one_more : (s : Fields) (n k : ℕ) → 1 ≤ k → k ≤ gates_of s → walks s n (next_of s k) ≡ true → walks s (suc n) k ≡ true
unfolding walks
one_more s n k a b t = rw (le-leb 1 k a, le-leb k (gates_of s) b) t

-- the gate of a kind and its wires
gate : ℕ → ℕ → ℕ → ℕ → Gate
gate kind a b c = cond (eqb kind 1) (xor a b c) (cond (eqb kind 2) (and a b c) (inv a c))

gate-at : (s : Fields) (k : ℕ) → gate_at s k ≡ gate (kind_of s k) (wire_a s k) (wire_b s k) (inputs_of s + k - 1)
unfolding gate_at gate
gate-at s k = refl

gate_same : {k j a d b e c f : ℕ} → k ≡ j → a ≡ d → b ≡ e → c ≡ f → gate k a b c ≡ gate j d e f
gate_same p q r s = rw (p, q, r, s)

-- its wires moved
gate-moved : (up : ℕ → ℕ) (k a b c : ℕ) → gate k (up a) (up b) (up c) ≡ moved_gate up (gate k a b c)
unfolding gate moved_gate
gate-moved up k a b c = pick (eqb k 1) (eqb k 2)
  where
    pick : (p q : Bool) → cond p (xor (up a) (up b) (up c)) (cond q (and (up a) (up b) (up c)) (inv (up a) (up c)))
        ≡ moved_gate up (cond p (xor a b c) (cond q (and a b c) (inv a c)))
    pick true q = refl
    pick false true = refl
    pick false false = refl

module _ (x y : Fields) where
  abbrev z : Fields
  z = laid (joined_parts x y)

  abbrev G : ℕ
  G = gates_of x

  abbrev to : ℕ
  to = onward x y

  abbrev up : ℕ → ℕ
  up = moved_wire (inputs_of x) G

  first_next : (k : ℕ) → 1 ≤ k → k ≤ G → next_of z k ≡ led_on to (next_of x k)
  unfolding first_slot
  first_next k a b = (first-slot x y k a b).next

  second-next : (k : ℕ) → 1 ≤ k → k ≤ gates_of y → next_of z (k + G) ≡ moved_link G (next_of y k)
  unfolding second_slot
  second-next k a b = (second-slot x y k a b).next

  -- the second's way goes up
  second_walks : (n k : ℕ) → walks y n k ≡ true → walks z n (moved_link G k) ≡ true
  unfolding walks
  second_walks zero k t = eq-eqb (moved_link G k) 0 (link-end G k (none_left y k t))
  second_walks (suc n) k t =
      let h = here y (suc n) k (omega arith) t in
      let e : next_of z (k + G) ≡ moved_link G (next_of y k) = second-next k h.first h.low in
      ap (walks z (suc n)) (link_up G k h.first)
      ∙ one_more z n (k + G) (omega (arith, h.first)) (omega (arith, h.low, joined-gates x y))
      (ap (walks z n) e ∙ second_walks n (next_of y k) (rest y n k h))

  -- and stands after the first's
  first_walks : (m : ℕ) → walks z m to ≡ true → (n k : ℕ) → walks x n k ≡ true → walks z (n + m) (led_on to k) ≡ true
  first_walks m u zero k t =
      let e : zero + m ≡ m = omega arith in
      ap₂ (walks z) e (led-end to k (none_left x k t)) ∙ u
  first_walks m u (suc n) k t =
      let h = here x (suc n) k (omega arith) t in
      let e : suc n + m ≡ suc (n + m) = omega arith in
      ap₂ (walks z) e (led-slot to k h.first)
      ∙ one_more z (n + m) k h.first (omega (arith, h.low, joined-gates x y))
      (ap (walks z (n + m)) (first_next k h.first h.low) ∙ first_walks m u n (next_of x k) (rest x n k h))

  pub joined-chain : good_chain x ≡ true → good_chain y ≡ true → good_chain z ≡ true
  joined-chain s t =
      walked-chain z
      ∙ ap₂ (walks z) (joined-gates x y) (joined-head x y)
      ∙ first_walks (gates_of y) (second_walks (gates_of y) (head_of y) (sym (walked-chain y) ∙ t)) G (head_of x) (sym (walked-chain x) ∙ s)

  -- the gates of the first's slots
  first-gate : (k : ℕ) → 1 ≤ k → k ≤ G → gate_at z k ≡ gate_at x k
  unfolding first_slot
  first-gate k a b =
      let h = first-slot x y k a b in
      gate-at z k ∙ gate_same h.kind h.a h.b (ap (λ (i : ℕ). i + k - 1) (joined-inputs x y)) ∙ sym (gate-at x k)

  -- and of the second's
  second-gate : inputs_of x ≡ inputs_of y → (k : ℕ) → 1 ≤ k → k ≤ gates_of y → gate_at z (k + G) ≡ moved_gate up (gate_at y k)
  unfolding second_slot
  second-gate same k a b =
      let h = second-slot x y k a b in
      let w : inputs_of z + (k + G) - 1 ≡ up (inputs_of y + k - 1) =
      omega (arith, joined-inputs x y, wire-slot (inputs_of x) G (inputs_of y + k - 1) (omega arith)) in
      gate-at z (k + G) ∙ gate_same h.kind h.a h.b w ∙ gate-moved up (kind_of y k) (wire_a y k) (wire_b y k) (inputs_of y + k - 1)
      ∙ ap (moved_gate up) (sym (gate-at y k))

  -- the gates along the second's way, and along the first's
  second-gates : inputs_of x ≡ inputs_of y → (n k : ℕ) → walks y n k ≡ true
      → map (gate_at z) (chain_from z n (moved_link G k)) ≡ map (moved_gate up) (map (gate_at y) (chain_from y n k))
  unfolding chain_from
  second-gates same zero k t = refl
  second-gates same (suc n) k t =
      let h = here y (suc n) k (omega arith) t in
      let e : moved_link G k ≡ k + G = link_up G k h.first in
      ap₂ ◌∷◌ (ap (gate_at z) e ∙ second-gate same k h.first h.low)
      (ap (λ (j : ℕ). map (gate_at z) (chain_from z n (next_of z j))) e
      ∙ ap (λ (j : ℕ). map (gate_at z) (chain_from z n j)) (second-next k h.first h.low)
      ∙ second-gates same n (next_of y k) (rest y n k h))

  first-gates : (m n k : ℕ) → walks x n k ≡ true
      → map (gate_at z) (chain_from z (n + m) (led_on to k)) ≡ map (gate_at x) (chain_from x n k) ++ map (gate_at z) (chain_from z m to)
  unfolding chain_from
  first-gates m zero k t =
      let e : zero + m ≡ m = omega arith in
      ap₂ (λ (i j : ℕ). map (gate_at z) (chain_from z i j)) e (led-end to k (none_left x k t))
  first-gates m (suc n) k t =
      let h = here x (suc n) k (omega arith) t in
      let e : suc n + m ≡ suc (n + m) = omega arith in
      ap₂ (λ (i j : ℕ). map (gate_at z) (chain_from z i j)) e (led-slot to k h.first)
      ∙ ap₂ ◌∷◌ (first-gate k h.first h.low)
      (ap (λ (j : ℕ). map (gate_at z) (chain_from z (n + m) j)) (first_next k h.first h.low) ∙ first-gates m n (next_of x k) (rest x n k h))

  -- the first's gates, then the second's with moved wires
  pub joined-order : inputs_of x ≡ inputs_of y → good_chain x ≡ true → good_chain y ≡ true
      → gates_in_order z ≡ gates_in_order x ++ map (moved_gate up) (gates_in_order y)
  unfolding gates_in_order
  joined-order same s t =
      ap₂ (λ (i j : ℕ). map (gate_at z) (chain_from z i j)) (joined-gates x y) (joined-head x y)
      ∙ first-gates (gates_of y) G (head_of x) (sym (walked-chain x) ∙ s)
      ∙ ap (λ (l : List Gate). map (gate_at x) (chain_from x G (head_of x)) ++ l) (second-gates same (gates_of y) (head_of y) (sym (walked-chain y) ∙ t))
