-- The parity of a word at any width, and by the number of its ones.
-- Assumes nothing.
use mathlib.Core.Path.{◌≡◌, refl, sym, ap, ◌∙◌}
use mathlib.Core.Bool.{Bool, true, false}
use Prim.Native.Nat.{ℕ, zero, suc, ◌+◌, ◌-◌, ◌*◌, ◌/◌, ◌%◌, ◌^◌, ◌≤◌, ◌<◌}
use native.Mathlib.Nat.{add-suc, add-zero}
use native.Mathlib.Numerals.{add-one, one-add}
use native.Mathlib.Omega.{arith}
use lib.Count.{ones, ones_step}
use lib.Pow.{shr_lt}
use Rattle.bits.specs.Bits.{bit_val, odd, test_bit, from_bits}
use Rattle.bits.specs.Xor.{◌⊕◌, xors}
use Rattle.bits.proofs.Bitwise.{odd-add-even}
use Rattle.bits.proofs.Numbers.{bit-at, from_bits-lt, mod-two, odd-bit_val, test_bit-high, test_bit-shr}
use Rattle.bits.proofs.Xor.{xor_assoc, xor-false, xors-cong, xors-false, xors-front, xors-zero}
use Rattle.words.specs.Words.{parity}
use Rattle.words.proofs.Columns.{word-parity}

-- an XOR in two parts
pub xors-add : (m n : ℕ) (f : ℕ → Bool) → xors (m + n) f ≡ xors m f ⊕ xors n (λ i. f (m + i))
unfolding xors
xors-add m zero f = ap (λ (k : ℕ). xors k f) (add-zero m) ∙ sym (xor-false (xors m f))
xors-add m (suc n) f =
    ap (λ (k : ℕ). xors k f) (add-suc m n) ∙ ap (λ (b : Bool). b ⊕ f (m + n)) (xors-add m n f) ∙ xor_assoc (xors m f) _ (f (m + n))

-- a word of n bits has the same parity at any greater width
pub parity-wide : (n N x : ℕ) → n ≤ N → x < 2 ^ n → parity N x ≡ parity n x
unfolding parity
parity-wide n N x h l =
    let e : N ≡ n + (N - n) = omega arith in
    ap (λ (k : ℕ). xors k (test_bit x)) e ∙ xors-add n (N - n) (test_bit x)
    ∙ ap (λ (b : Bool). xors n (test_bit x) ⊕ b) (xors-cong (N - n) _ (λ i. false) (λ i k. test_bit-high n x (n + i) l (omega arith)) ∙ xors-false (N - n))
    ∙ xor-false (xors n (test_bit x))

-- the mask of a column is the parity of its word, at any width N
pub word-mask : (N n : ℕ) (f : ℕ → Bool) → n ≤ N → parity N (from_bits n f) ≡ xors n f
word-mask N n f h = parity-wide n N (from_bits n f) h (from_bits-lt n f) ∙ word-parity n n f (omega arith)

-- the lowest bit of a sum of two digits
add-digit : (a b : Bool) → odd (bit_val a + bit_val b) ≡ a ⊕ b
unfolding odd
add-digit true true = refl
add-digit true false = refl
add-digit false true = refl
add-digit false false = refl

-- the lowest bit of a digit and a number
add-lowest : (a : Bool) (y : ℕ) → odd (bit_val a + y) ≡ a ⊕ odd y
add-lowest a y =
    let e : bit_val a + y ≡ y / 2 * 2 + (bit_val a + y % 2) = omega arith in
    ap odd e ∙ odd-add-even (y / 2) (bit_val a + y % 2) ∙ ap (λ (d : ℕ). odd (bit_val a + d)) (mod-two y) ∙ add-digit a (odd y)

-- the parity of a word of n bits is that of the number of its ones
pub ones-parity : (n x : ℕ) → x < 2 ^ n → odd (ones x) ≡ parity n x
unfolding parity ones
ones-parity zero x l =
    let z : x ≡ 0 = omega arith in
    ap (λ (v : ℕ). odd (ones v)) z ∙ odd-bit_val false ∙ sym (xors-zero (test_bit x))
ones-parity (suc n) x l =
    let whole : x % 2 ≡ x / 2 ^ 0 % 2 = omega arith in
    let lowest : x % 2 ≡ bit_val (test_bit x 0) = whole ∙ bit-at x 0 in
    let h : x / 2 < 2 ^ n = shr_lt n 1 (rw (add-one n) l) in
    ap odd (ones_step x) ∙ ap (λ (d : ℕ). odd (d + ones (x / 2))) lowest ∙ add-lowest (test_bit x 0) (ones (x / 2))
    ∙ ap (λ (b : Bool). test_bit x 0 ⊕ b) (ones-parity n (x / 2) h ∙ xors-cong n (test_bit (x / 2)) (λ i. test_bit x (suc i)) (λ i k. test_bit-shr x 1 i ∙ ap (test_bit x) (one-add i)))
    ∙ sym (xors-front n (test_bit x))
