-- The AND gates that are added: O − 1 for each entry that was not listed before.
-- Assumes nothing.
use mathlib.Core.Path.{◌≡◌, refl, sym, ap, ap₂, ◌∙◌}
use mathlib.Core.Bool.{Bool, true, false, not, cond}
use mathlib.Core.List.{List, ◌∷◌, map}
use Prim.Native.Nat.{ℕ, zero, suc, ◌+◌, ◌-◌, ◌*◌, ◌≤◌, ◌<◌}
use native.Mathlib.Omega.{arith}
use native.Mathlib.Nat.{suc-mul, zero-mul, mul-zero, add-mul, mul_comm, mul-le-mul_right}
use borrow.Author.Tests.{lt-ltb, le-ltb}
use Rattle.bits.specs.Bits.{bit_val}
use Rattle.circuit.specs.Circuit.{Gate, xor, and, inv, ands}
use Rattle.circuit.specs.Fields.{Fields, inputs_of, gate_at}
use Rattle.building.specs.Files.{Four}
use Rattle.one_of.specs.OneOf.{repeated, four, added, sum_wire, zero_wire, prefix, literal, entry_gate, new_gate}
use Rattle.one_of.specs.Theorem.{distinct}
use Rattle.one_of.proofs.Chained.{up_from}
use Rattle.one_of.proofs.Slots.{gate_four, O, G, N, new, onward, gate-slot, slot-new, new-inv, new-zero, new-entry}

-- 1 for an AND gate
and_of : Gate → ℕ
and_of (xor a b c) = 0
and_of (and a b c) = 1
and_of (inv a c) = 0

ands-cons : (g : Gate) (gs : List Gate) → ands (g ∷ gs) ≡ and_of g + ands gs
unfolding ands and_of
ands-cons (xor a b c) gs = omega arith
ands-cons (and a b c) gs = omega arith
ands-cons (inv a c) gs = omega arith

module _ (y : Fields) where
  -- the AND gates of n slots from k on
  unfoldable pub ands_up : ℕ → ℕ → ℕ
  ands_up k n = ands (map (gate_at y) (up_from k n))

  none-up : (k : ℕ) → ands_up k 0 ≡ 0
  unfolding ands_up up_from ands
  none-up k = refl

  more-up : (k n : ℕ) → ands_up k (suc n) ≡ and_of (gate_at y k) + ands_up (k + 1) n
  unfolding ands_up up_from
  more-up k n = ands-cons (gate_at y k) (map (gate_at y) (up_from (k + 1) n))

  split-up : (k m n : ℕ) → ands_up k (m + n) ≡ ands_up k m + ands_up (k + m) n
  split-up k zero n =
      let q : 0 + n ≡ n = omega arith in
      let z : k + 0 ≡ k = omega arith in
      rw (q, z, none-up k) (omega arith)
  split-up k (suc m) n =
      let q : suc m + n ≡ suc (m + n) = omega arith in
      let z : k + 1 + m ≡ k + suc m = omega arith in
      ap (ands_up k) q ∙ omega (arith, more-up k (m + n), more-up k m, split-up (k + 1) m n, ap (λ (i : ℕ). ands_up i n) z)

  -- n slots of which each has b AND gates
  alike-up : (b k n : ℕ) → ((i : ℕ) → i < n → and_of (gate_at y (k + i)) ≡ b) → ands_up k n ≡ n * b
  alike-up b k zero h = none-up k ∙ sym (zero-mul b)
  alike-up b k (suc n) h =
      let z : k + 0 ≡ k = omega arith in
      omega (
        arith,
        more-up k n,
        suc-mul n b,
        ap (λ (i : ℕ). and_of (gate_at y i)) z,
        h 0 (omega arith),
        alike-up b (k + 1) n (λ i l. let q : k + 1 + i ≡ k + suc i = omega arith in ap (λ (i : ℕ). and_of (gate_at y i)) q ∙ h (suc i) (omega arith)),
      )

module _ (x : Fields) (list : List ℕ) where
  -- the AND gates of a gate that is added
  new-ands : (k i : ℕ) (q : Four) → k ≡ G x list + 1 + i → i < added (O x list) (N x list) → new_gate x list i (onward x list k) ≡ q
      → and_of (gate_at (new x list) k) ≡ and_of (gate_four q (inputs_of x + k - 1))
  new-ands k i q e h g =
      ap and_of (gate-slot x list k (omega arith) (omega arith) ∙ ap (λ (r : Four). gate_four r (inputs_of x + k - 1)) (slot-new x list k i e ∙ g))

  -- INV and XOR have none
  inv-ands : (a b n c : ℕ) → and_of (gate_four (four 3 a b n) c) ≡ 0
  unfolding and_of gate_four
  inv-ands a b n c = refl

  xor-ands : (a b n c : ℕ) → and_of (gate_four (four 1 a b n) c) ≡ 0
  unfolding and_of gate_four
  xor-ands a b n c = refl

  -- gate j of entry e has one where the entry was not listed before, but for the last
  entry-ands : (e j n c : ℕ) → j + 1 < O x list → and_of (gate_four (entry_gate x list e j n) c) ≡ bit_val (not (repeated (O x list) list e))
  unfolding and_of gate_four entry_gate
  entry-ands e j n c h = rw (lt-ltb (j + 1) (O x list) h) (pick (repeated (O x list) list e))
    where
      pick : (r : Bool) → and_of (gate_four (cond r (four 1 (sum_wire x e) (zero_wire x) n) (four 2 (prefix x list e j) (literal x list e (j + 1)) n)) c) ≡ bit_val (not r)
      pick true = refl
      pick false = refl

  last-ands : (e j n c : ℕ) → O x list ≤ j + 1 → and_of (gate_four (entry_gate x list e j n) c) ≡ 0
  unfolding and_of gate_four entry_gate
  last-ands e j n c h = rw (le-ltb (j + 1) (O x list) h) (pick (repeated (O x list) list e))
    where
      pick : (r : Bool) → and_of (gate_four (cond r (four 1 (sum_wire x e) (zero_wire x) n) (four 1 (sum_wire x e) (prefix x list e j) n)) c) ≡ 0
      pick true = refl
      pick false = refl

  module _ (some : 1 ≤ O x list) where
    abbrev o : ℕ
    o = O x list

    abbrev first : ℕ
    first = G x list + 1

    -- gate j of entry e stands among those that are added
    place : (e j : ℕ) → e < N x list → j < o → (q : ℕ) → first + (o + 1 + e * o) + j ≡ q
        → and_of (gate_at (new x list) q) ≡ and_of (gate_four (entry_gate x list e j (onward x list q)) (inputs_of x + q - 1))
    place e j a h q z =
        let i : ℕ = o + 1 + (e * o + j) in
        new-ands q i (entry_gate x list e j (onward x list q)) (omega arith) (omega (arith, suc-mul e o, mul-le-mul_right o a)) (new-entry x list (onward x list q) i e j a h refl)

    block_up : (e : ℕ) → e < N x list → ands_up (new x list) (first + (o + 1 + e * o)) o ≡ bit_val (not (repeated o list e)) * (o - 1)
    block_up e a =
        let k : ℕ = first + (o + 1 + e * o) in
        let b : ℕ = bit_val (not (repeated o list e)) in
        let q : o ≡ o - 1 + 1 = omega arith in
        let front : ands_up (new x list) k (o - 1) ≡ (o - 1) * b =
        alike-up (new x list) b k (o - 1) (λ j l. place e j a (omega arith) (k + j) refl ∙ entry-ands e j _ _ (omega arith)) in
        let back : ands_up (new x list) (k + (o - 1)) 1 ≡ 1 * 0 =
        alike-up (new x list) 0 (k + (o - 1)) 1 (λ j l. place e (o - 1) a (omega arith) (k + (o - 1) + j) (omega arith) ∙ last-ands e (o - 1) _ _ (omega arith)) in
        ap (ands_up (new x list) k) q ∙ omega (arith, split-up (new x list) k (o - 1) 1, front, back, mul_comm (o - 1) b)

    entries-up : (n : ℕ) → n ≤ N x list → ands_up (new x list) (first + (o + 1)) (n * o) ≡ distinct o list n * (o - 1)
    unfolding distinct
    entries-up zero h = ap (ands_up (new x list) (first + (o + 1))) (zero-mul o) ∙ none-up (new x list) (first + (o + 1)) ∙ sym (zero-mul (o - 1))
    entries-up (suc n) h =
        let k : ℕ = first + (o + 1) in
        let z : k + n * o ≡ first + (o + 1 + n * o) = omega arith in
        ap (ands_up (new x list) k) (suc-mul n o)
        ∙ split-up (new x list) k (n * o) o
        ∙ ap₂ ◌+◌ (entries-up n (omega arith)) (ap (λ (i : ℕ). ands_up (new x list) i o) z ∙ block_up n h)
        ∙ sym (add-mul (distinct o list n) (bit_val (not (repeated o list n))) (o - 1))

    -- all AND gates that are added
    pub ands-new : ands_up (new x list) first (added o (N x list)) ≡ distinct o list (N x list) * (o - 1)
    ands-new =
        let y = new x list in
        let a : ands_up y first o ≡ o * 0 =
        alike-up y 0 first o (λ i l. new-ands (first + i) i _ refl (omega arith) (new-inv x list (onward x list (first + i)) i l) ∙ inv-ands _ _ _ _) in
        let b : ands_up y (first + o) 1 ≡ 1 * 0 =
        alike-up y 0 (first + o) 1 (λ i l. new-ands (first + o + i) o _ (omega arith) (omega arith) (new-zero x list (onward x list (first + o + i))) ∙ xor-ands _ _ _ _) in
        let c = split-up y first (o + 1) (N x list * o) in
        let d = split-up y first o 1 in
        omega (arith, c, d, a, b, mul-zero o, entries-up (N x list) (omega arith))
