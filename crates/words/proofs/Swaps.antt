-- A word's bits after exchanges of places, and the transposition as three of them.
-- Assumes nothing.
use mathlib.Core.Path.{◌≡◌, refl, sym, ap, ap₂, ◌∙◌}
use mathlib.Core.Bool.{Bool, true, false, cond, not, ◌&&◌}
use mathlib.Core.Logic.{⊎_elim}
use Prim.Native.Nat.{ℕ, zero, suc, ◌+◌, ◌-◌, ◌*◌, ◌/◌, ◌%◌, ◌^◌, ◌<◌}
use native.Mathlib.Nat.{add_comm, eq-or-lt_of_le, le_of_suc-le-suc}
use native.Mathlib.Omega.{arith}
use borrow.Author.Tests.{eqb-true, ltb-true, le-ltb, lt-ltb}
use lib.Bits.{bit_xor, bit_and}
use lib.Dec.{eqb, ltb}
use Rattle.bits.specs.Bits.{odd, test_bit}
use Rattle.bits.specs.Xor.{◌⊕◌}
use Rattle.bits.proofs.Bitwise.{test_bit-and, test_bit-xor}
use Rattle.bits.proofs.Numbers.{from_bits-cong, from_bits-test_bit, lt-or-le, test_bit-from_bits, test_bit-shr}
use Rattle.bits.proofs.Ops.{test_bit-shl-below, test_bit-shl-from}
use Rattle.bits.proofs.Tests.{and-true-left, and-true-right}
use Rattle.bits.proofs.Xor.{taut}
use Rattle.words.specs.Steps.{swapped, transposed}
use Rattle.words.proofs.Columns.{cond_map}

-- whether f holds at every place below n, computed
abbrev pub all : ℕ → (ℕ → Bool) → Bool
all zero f = true
all (suc n) f = all n f && f n

-- so it holds at each
pub all-at : (n : ℕ) (f : ℕ → Bool) → all n f ≡ true → (k : ℕ) → k < n → f k ≡ true
all-at zero f e k l = absurd (omega arith)
all-at (suc n) f e k l =
    ⊎_elim (λ q. ap f q ∙ and-true-right (all n f) (f n) e) (λ lt. all-at n f (and-true-left (all n f) (f n) e) k lt) (eq-or-lt_of_le (le_of_suc-le-suc l))

-- a negation that holds
not-true : (b : Bool) → not b ≡ true → b ≡ false
not-true true e = sym e
not-true false e = refl

-- place z is one that an exchange reaches from below
abbrev pub above : ℕ → ℕ → ℕ → Bool
above m d z = not (ltb z d) && test_bit m (z - d)

-- where the bit at place z comes from
abbrev place : ℕ → ℕ → ℕ → ℕ
place m d z = cond (test_bit m z) (z + d) (cond (above m d z) (z - d) z)

-- place z takes part in one exchange at most, and within the word
abbrev within : ℕ → ℕ → ℕ → Bool
within m d z = not (test_bit m z && above m d z) && ltb (place m d z) 64

-- what the shift to the left brings
shifted : (m d t x z : ℕ) → z < 64 → t ≡ bit_and (bit_xor x (x / 2 ^ d)) m
    → test_bit (t * 2 ^ d % 2 ^ 64) z ≡ above m d z && (test_bit x (z - d) ⊕ test_bit x z)
shifted m d t x z l e =
    ⊎_elim
    (λ lt. test_bit-shl-below 64 t d z l lt ∙ sym (ap (λ (b : Bool). not b && test_bit m (z - d) && (test_bit x (z - d) ⊕ test_bit x z)) (lt-ltb z d lt)))
    (λ le.
    let i = z - d in
    let q : d + i ≡ z = omega arith in
    test_bit-shl-from 64 t d z l le ∙ ap (λ (v : ℕ). test_bit v i) e ∙ test_bit-and (bit_xor x (x / 2 ^ d)) m i
    ∙ ap (λ (b : Bool). b && test_bit m i) (test_bit-xor x (x / 2 ^ d) i ∙ ap (λ (b : Bool). test_bit x i ⊕ b) (test_bit-shr x d i ∙ ap (test_bit x) q))
    ∙ taut 3 (λ a b c. (a ⊕ b) && c) (λ a b c. c && (a ⊕ b)) tt (test_bit x i) (test_bit x z) (test_bit m i)
    ∙ sym (ap (λ (b : Bool). not b && test_bit m i && (test_bit x i ⊕ test_bit x z)) (le-ltb z d le)))
    (lt-or-le z d)

-- the bits after an exchange
swapped-bit : (m d x z : ℕ) → z < 64 → test_bit m z && above m d z ≡ false → test_bit (swapped m d x) z ≡ test_bit x (place m d z)
unfolding swapped
swapped-bit m d x z l clear =
    let t = bit_and (bit_xor x (x / 2 ^ d)) m in
    let u = test_bit m z in
    let v = above m d z in
    let X = test_bit x z in
    let Y = test_bit x (z + d) in
    let W = test_bit x (z - d) in
    let low : test_bit t z ≡ (X ⊕ Y) && u = test_bit-and (bit_xor x (x / 2 ^ d)) m z
    ∙ ap (λ (b : Bool). b && u) (test_bit-xor x (x / 2 ^ d) z ∙ ap (λ (b : Bool). X ⊕ b) (test_bit-shr x d z ∙ ap (test_bit x) (add_comm d z))) in
    test_bit-xor (bit_xor x t) (t * 2 ^ d % 2 ^ 64) z
    ∙ ap₂ ◌⊕◌ (test_bit-xor x t z ∙ ap (λ (b : Bool). X ⊕ b) low) (shifted m d t x z l refl)
    ∙ taut 5 (λ u v x y w. x ⊕ ((x ⊕ y) && u) ⊕ (v && (w ⊕ x))) (λ u v x y w. cond (u && v) (y ⊕ w ⊕ x) (cond u y (cond v w x))) tt u v X Y W
    ∙ ap (λ (b : Bool). cond b (Y ⊕ W ⊕ X) (cond u Y (cond v W X))) clear
    ∙ sym (cond_map (test_bit x) u (z + d) (cond v (z - d) z) ∙ ap (cond u Y) (cond_map (test_bit x) v (z - d) z))

-- an exchange whose places are right brings each bit from its place, which is within the word
module _ (m d : ℕ) (ok : all 64 (within m d) ≡ true) where
  sends : (x y z : ℕ) → y ≡ swapped m d x → z < 64 → (test_bit y z ≡ test_bit x (place m d z)) × (place m d z < 64)
  sends x y z e l =
      let k = all-at 64 (within m d) ok z l in
      let clear = not-true (test_bit m z && above m d z) (and-true-left (not (test_bit m z && above m d z)) (ltb (place m d z) 64) k) in (
        ap (λ (v : ℕ). test_bit v z) e ∙ swapped-bit m d x z l clear,
        ltb-true (place m d z) 64 (and-true-right (not (test_bit m z && above m d z)) (ltb (place m d z) 64) k),
      )

-- the three exchanges of the transposition
first : all 64 (within 0x00AA00AA00AA00AA 7) ≡ true
unfolding test_bit odd
first = refl

second : all 64 (within 0x0000CCCC0000CCCC 14) ≡ true
unfolding test_bit odd
second = refl

third : all 64 (within 0x00000000F0F0F0F0 28) ≡ true
unfolding test_bit odd
third = refl

-- where the three together bring a bit from
abbrev origin : ℕ → ℕ
origin z = place 0x00AA00AA00AA00AA 7 (place 0x0000CCCC0000CCCC 14 (place 0x00000000F0F0F0F0 28 z))

origins : all 64 (λ z. eqb (origin z) (8 * (z % 8) + z / 8)) ≡ true
unfolding test_bit odd
origins = refl

pub three-swaps : (x y z r : ℕ) → r < 2 ^ 64 → y ≡ swapped 0x00AA00AA00AA00AA 7 x → z ≡ swapped 0x0000CCCC0000CCCC 14 y
    → r ≡ swapped 0x00000000F0F0F0F0 28 z → r ≡ transposed x
unfolding transposed
three-swaps x y z r h e f g =
    sym (from_bits-test_bit 64 r h)
    ∙ from_bits-cong 64 (test_bit r) _
    (λ k l.
    let a = sends 0x00000000F0F0F0F0 28 third z r k g l in
    let b = sends 0x0000CCCC0000CCCC 14 second y z _ f a.1 in
    let c = sends 0x00AA00AA00AA00AA 7 first x y _ e b.1 in
    a.0 ∙ b.0 ∙ c.0 ∙ ap (test_bit x) (eqb-true (origin k) (8 * (k % 8) + k / 8) (all-at 64 (λ i. eqb (origin i) (8 * (i % 8) + i / 8)) origins k l)))

-- bit i of byte j is bit j of byte i
pub transposed-bit : (x i j : ℕ) → i < 8 → j < 8 → test_bit (transposed x) (8 * j + i) ≡ test_bit x (8 * i + j)
unfolding transposed
transposed-bit x i j h k =
    let e : 8 * ((8 * j + i) % 8) + (8 * j + i) / 8 ≡ 8 * i + j = omega arith in
    test_bit-from_bits 64 (λ z. test_bit x (8 * (z % 8) + z / 8)) (8 * j + i) (omega arith) ∙ ap (test_bit x) e
