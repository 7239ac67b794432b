-- Eight words' bits after exchanges between them, and the transposition of their bytes' bits as three of these.
-- Assumes nothing.
use mathlib.Core.Path.{◌≡◌, refl, sym, ap, ap₂, ◌∙◌}
use mathlib.Core.Bool.{Bool, true, false, cond, not, ◌&&◌}
use mathlib.Core.List.{List}
use mathlib.Core.Logic.{⊎_elim}
use Prim.Native.Nat.{ℕ, zero, suc, ◌+◌, ◌-◌, ◌*◌, ◌/◌, ◌%◌, ◌^◌, ◌<◌}
use native.Mathlib.Nat.{add_comm}
use native.Mathlib.Omega.{arith}
use borrow.Author.Tests.{eqb-true, ltb-true, le-ltb, lt-ltb}
use lib.Bits.{bit_xor, bit_and}
use lib.Dec.{eqb, ltb}
use lib.ListN.{length, get_or}
use lib.Seq.{ext_get_or}
use Rattle.bits.specs.Bits.{odd, tabulate, test_bit, from_bits}
use Rattle.bits.specs.Xor.{◌⊕◌}
use Rattle.bits.proofs.Bitwise.{test_bit-and, test_bit-xor}
use Rattle.bits.proofs.Numbers.{from_bits-cong, from_bits-test_bit, lt-or-le, test_bit-shr}
use Rattle.bits.proofs.Ops.{test_bit-shl-below, test_bit-shl-from}
use Rattle.bits.proofs.Tests.{and-true-left, and-true-right}
use Rattle.bits.proofs.Tabulate.{get_d_tabulate, length-tabulate}
use Rattle.bits.proofs.Xor.{taut}
use Rattle.words.specs.Steps.{at}
use Rattle.blocks.specs.Steps.{exchanged_pair, exchanged, transposed_rows}
use Rattle.words.proofs.Swaps.{all, all-at, above}

-- the bits that two words exchange
abbrev differing : ℕ → ℕ → ℕ → ℕ → ℕ
differing m d x y = bit_and (bit_xor (x / 2 ^ d) y) m

-- the second word after it
high_bit : (m d x y z : ℕ) → test_bit (bit_xor y (differing m d x y)) z ≡ cond (test_bit m z) (test_bit x (z + d)) (test_bit y z)
high_bit m d x y z =
    test_bit-xor y (differing m d x y) z
    ∙ ap (λ (b : Bool). test_bit y z ⊕ b)
    (test_bit-and (bit_xor (x / 2 ^ d) y) m z
    ∙ ap (λ (b : Bool). b && test_bit m z)
    (test_bit-xor (x / 2 ^ d) y z ∙ ap (λ (b : Bool). b ⊕ test_bit y z) (test_bit-shr x d z ∙ ap (test_bit x) (add_comm d z))))
    ∙ taut 3 (λ u x y. y ⊕ ((x ⊕ y) && u)) (λ u x y. cond u x y) tt (test_bit m z) (test_bit x (z + d)) (test_bit y z)

-- what comes to the first word
moved : (m d x y z : ℕ) → z < 64 → test_bit (differing m d x y * 2 ^ d % 2 ^ 64) z ≡ above m d z && (test_bit x z ⊕ test_bit y (z - d))
moved m d x y z l =
    let t = differing m d x y in
    ⊎_elim
    (λ lt. test_bit-shl-below 64 t d z l lt ∙ sym (ap (λ (b : Bool). not b && test_bit m (z - d) && (test_bit x z ⊕ test_bit y (z - d))) (lt-ltb z d lt)))
    (λ le.
    let i = z - d in
    let q : d + i ≡ z = omega arith in
    test_bit-shl-from 64 t d z l le ∙ test_bit-and (bit_xor (x / 2 ^ d) y) m i
    ∙ ap (λ (b : Bool). b && test_bit m i) (test_bit-xor (x / 2 ^ d) y i ∙ ap (λ (b : Bool). b ⊕ test_bit y i) (test_bit-shr x d i ∙ ap (test_bit x) q))
    ∙ taut 3 (λ a b c. (a ⊕ b) && c) (λ a b c. c && (a ⊕ b)) tt (test_bit x z) (test_bit y i) (test_bit m i)
    ∙ sym (ap (λ (b : Bool). not b && test_bit m i && (test_bit x z ⊕ test_bit y i)) (le-ltb z d le)))
    (lt-or-le z d)

low_bit : (m d x y z : ℕ) → z < 64 → test_bit (bit_xor x (differing m d x y * 2 ^ d % 2 ^ 64)) z ≡ cond (above m d z) (test_bit y (z - d)) (test_bit x z)
low_bit m d x y z l =
    test_bit-xor x (differing m d x y * 2 ^ d % 2 ^ 64) z
    ∙ ap (λ (b : Bool). test_bit x z ⊕ b) (moved m d x y z l)
    ∙ taut 3 (λ v x y. x ⊕ (v && (x ⊕ y))) (λ v x y. cond v y x) tt (above m d z) (test_bit x z) (test_bit y (z - d))

-- bit z of word p of 8
abbrev bit : List ℕ → ℕ → ℕ → Bool
bit r p z = test_bit (at r p) z

-- the word and the place in it that bit z of word p comes from
abbrev from_word : ℕ → ℕ → ℕ → ℕ → ℕ
from_word m d p z = cond (eqb (p % 2) 0) (cond (above m d z) (p / 2 + 4) (p / 2)) (cond (test_bit m z) (p / 2) (p / 2 + 4))

abbrev from_place : ℕ → ℕ → ℕ → ℕ → ℕ
from_place m d p z = cond (eqb (p % 2) 0) (cond (above m d z) (z - d) z) (cond (test_bit m z) (z + d) z)

-- one of two bits
one_of : (r : List ℕ) (b : Bool) (p q z y : ℕ) → cond b (bit r p z) (bit r q y) ≡ bit r (cond b p q) (cond b z y)
one_of r true p q z y = refl
one_of r false p q z y = refl

-- what holds of each of 8
each-of-8 : (P : ℕ → Type 0) → P 0 → P 1 → P 2 → P 3 → P 4 → P 5 → P 6 → P 7 → (p : ℕ) → p < 8 → P p
each-of-8 P a b c d e f g h zero l = a
each-of-8 P a b c d e f g h (suc zero) l = b
each-of-8 P a b c d e f g h (suc (suc zero)) l = c
each-of-8 P a b c d e f g h (suc (suc (suc zero))) l = d
each-of-8 P a b c d e f g h (suc (suc (suc (suc zero)))) l = e
each-of-8 P a b c d e f g h (suc (suc (suc (suc (suc zero))))) l = f
each-of-8 P a b c d e f g h (suc (suc (suc (suc (suc (suc zero)))))) l = g
each-of-8 P a b c d e f g h (suc (suc (suc (suc (suc (suc (suc zero))))))) l = h
each-of-8 P a b c d e f g h (suc (suc (suc (suc (suc (suc (suc (suc p)))))))) l = absurd (omega arith)

-- the bits after an exchange
exchanged-bit : (m d : ℕ) (r : List ℕ) (p z : ℕ) → p < 8 → z < 64 → bit (exchanged m d r) p z ≡ bit r (from_word m d p z) (from_place m d p z)
unfolding exchanged exchanged_pair
exchanged-bit m d r p z l h =
    let low : (i : ℕ) → test_bit (bit_xor (at r i) (differing m d (at r i) (at r (i + 4)) * 2 ^ d % 2 ^ 64)) z
    ≡ bit r (cond (above m d z) (i + 4) i) (cond (above m d z) (z - d) z) = λ i.
    low_bit m d (at r i) (at r (i + 4)) z h ∙ one_of r (above m d z) (i + 4) i (z - d) z in
    let high : (i : ℕ) → test_bit (bit_xor (at r (i + 4)) (differing m d (at r i) (at r (i + 4)))) z
    ≡ bit r (cond (test_bit m z) i (i + 4)) (cond (test_bit m z) (z + d) z) = λ i.
    high_bit m d (at r i) (at r (i + 4)) z ∙ one_of r (test_bit m z) i (i + 4) (z + d) z in
    each-of-8 (λ q. bit (exchanged m d r) q z ≡ bit r (from_word m d q z) (from_place m d q z))
    (low 0) (high 0) (low 1) (high 1) (low 2) (high 2) (low 3) (high 3) p l

-- place w of 512 in 8 words
abbrev word : ℕ → ℕ
word w = w / 64

abbrev place : ℕ → ℕ
place w = w % 64

abbrev origin : ℕ → ℕ → ℕ → ℕ
origin m d w = 64 * from_word m d (word w) (place w) + from_place m d (word w) (place w)

-- every bit comes from within its word
abbrev inside : ℕ → ℕ → ℕ → Bool
inside m d w = ltb (from_place m d (word w) (place w)) 64 && ltb (from_word m d (word w) (place w)) 8

module _ (m d : ℕ) (ok : all 512 (inside m d) ≡ true) where
  brings : (r s : List ℕ) (w : ℕ) → s ≡ exchanged m d r → w < 512
      → (bit s (word w) (place w) ≡ bit r (word (origin m d w)) (place (origin m d w))) × (origin m d w < 512)
  brings r s w e l =
      let W = from_word m d (word w) (place w) in
      let Z = from_place m d (word w) (place w) in
      let k = all-at 512 (inside m d) ok w l in
      let hz : Z < 64 = ltb-true Z 64 (and-true-left (ltb Z 64) (ltb W 8) k) in
      let hw : W < 8 = ltb-true W 8 (and-true-right (ltb Z 64) (ltb W 8) k) in
      let a : W ≡ word (64 * W + Z) = omega arith in
      let b : Z ≡ place (64 * W + Z) = omega arith in (
        ap (λ (t : List ℕ). bit t (word w) (place w)) e ∙ exchanged-bit m d r (word w) (place w) (omega arith) (omega arith) ∙ ap₂ (bit r) a b,
        omega arith,
      )

-- the three exchanges of the transposition
first : all 512 (inside 0x0F0F0F0F0F0F0F0F 4) ≡ true
unfolding test_bit odd
first = refl

second : all 512 (inside 0x3333333333333333 2) ≡ true
unfolding test_bit odd
second = refl

third : all 512 (inside 0x5555555555555555 1) ≡ true
unfolding test_bit odd
third = refl

-- where the three together bring a bit from
abbrev start : ℕ → ℕ
start w = origin 0x0F0F0F0F0F0F0F0F 4 (origin 0x3333333333333333 2 (origin 0x5555555555555555 1 w))

-- from bit t of byte b of word p to bit p of byte b of word t
abbrev crossing : ℕ → ℕ → ℕ
crossing q k = 64 * (k % 8) + (8 * (k / 8) + q)

abbrev crossed : ℕ → ℕ
crossed w = crossing (word w) (place w)

parted : (a b : ℕ) → b < 64 → ((64 * a + b) / 64 ≡ a) × ((64 * a + b) % 64 ≡ b)
parted a b l = (omega arith, omega arith)

low_part : (q k : ℕ) → q < 8 → k < 64 → 8 * (k / 8) + q < 64
low_part q k l h = omega arith

crossing-word : (q k : ℕ) → q < 8 → k < 64 → word (crossing q k) ≡ k % 8
crossing-word q k l h = (parted (k % 8) (8 * (k / 8) + q) (low_part q k l h)).0

crossing-place : (q k : ℕ) → q < 8 → k < 64 → place (crossing q k) ≡ 8 * (k / 8) + q
crossing-place q k l h = (parted (k % 8) (8 * (k / 8) + q) (low_part q k l h)).1

starts : all 512 (λ w. eqb (start w) (crossed w)) ≡ true
unfolding test_bit odd
starts = refl

pub three-exchanges : (r s t v : List ℕ) → length v ≡ 8 → ((k : ℕ) → get_or v k 0 < 2 ^ 64) → s ≡ exchanged 0x0F0F0F0F0F0F0F0F 4 r
    → t ≡ exchanged 0x3333333333333333 2 s → v ≡ exchanged 0x5555555555555555 1 t → v ≡ transposed_rows r
unfolding transposed_rows
three-exchanges r s t v size small e f g =
    let row : ℕ → ℕ = λ q. from_bits 64 (λ k. test_bit (at r (k % 8)) (8 * (k / 8) + q)) in
    ext_get_or 0 v (tabulate 8 row) (size ∙ sym (length-tabulate 8 row))
    (λ q i.
    let l : q < 8 = omega arith in
    sym (from_bits-test_bit 64 (at v q) (small q))
    ∙ from_bits-cong 64 (test_bit (at v q)) _
    (λ k h.
    let w : ℕ = 64 * q + k in
    let hw : w < 512 = omega arith in
    let eq : q ≡ word w = omega arith in
    let ek : k ≡ place w = omega arith in
    let a = brings 0x5555555555555555 1 third t v w g hw in
    let b = brings 0x3333333333333333 2 second s t _ f a.1 in
    let c = brings 0x0F0F0F0F0F0F0F0F 4 first r s _ e b.1 in
    let from : start w ≡ crossed w = eqb-true (start w) (crossed w) (all-at 512 (λ i. eqb (start i) (crossed i)) starts w hw) in
    let there = from ∙ ap₂ crossing (sym eq) (sym ek) in
    ap₂ (bit v) eq ek ∙ a.0 ∙ b.0 ∙ c.0 ∙ ap (λ (i : ℕ). bit r (word i) (place i)) there
    ∙ ap₂ (bit r) (crossing-word q k l h) (crossing-place q k l h))
    ∙ sym (get_d_tabulate 8 row q 0 l))
