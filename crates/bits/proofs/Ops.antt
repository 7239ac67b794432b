-- The bits of the results of the machine's operations: XOR, AND, OR, NOT, shifts and rotations, at any width; laws of XOR.
-- Those of a shift to the right and of a remainder are `test_bit-shr` and `test_bit-mod` of Numbers.
-- Assumes nothing.
use mathlib.Core.Path.{◌≡◌, refl, sym, ap, ap₂, ◌∙◌}
use mathlib.Core.Bool.{Bool, true, false, not, ◌||◌}
use mathlib.Core.Logic.{⊎_elim}
use Prim.Native.Nat.{ℕ, zero, suc, ◌+◌, ◌-◌, ◌*◌, ◌/◌, ◌%◌, ◌^◌, ◌≤◌, ◌<◌}
use native.Mathlib.Nat.{add-mod_right, lt_of_lt_of_le, mod-eq_of_lt, mod-lt, mul_assoc, mul-mod_left, pow-suc}
use native.Mathlib.Omega.{arith}
use lib.Bits.{bit_or, bit_xor, xor_block, xor_lt}
use lib.Dec.{eqb}
use lib.Pow.{high, le_ones, ones_split, ones_sub-lt, pow-add, pow_mono, pow_pos, shl-shr, shr_lt, shr-shr, split}
use Rattle.bits.specs.Bits.{odd, test_bit}
use Rattle.bits.proofs.Numbers.{ext-bits, lt-or-le, test_bit-high, test_bit-mod, test_bit-shr}
use Rattle.bits.proofs.Xor.{xor_assoc}
pub use Rattle.bits.proofs.Bitwise.{test_bit-and, test_bit-or, test_bit-xor}

-- a double is even
even-double : (y : ℕ) → odd (y * 2) ≡ false
unfolding odd
even-double y = ap (λ (x : ℕ). eqb x 1) (mul-mod_left y 2)

-- a shift to the left by k puts zeros below place k
pub test_bit-shl-below : (w x k z : ℕ) → z < w → z < k → test_bit (x * 2 ^ k % 2 ^ w) z ≡ false
unfolding test_bit
test_bit-shl-below w x k z hw hk =
    let d = k - suc z in
    let e : k ≡ suc d + z = omega arith in
    let p : x * 2 ^ k ≡ x * 2 ^ d * 2 * 2 ^ z =
    ap (λ (y : ℕ). x * 2 ^ y) e ∙ ap (λ (y : ℕ). x * y) (pow-add 2 (suc d) z ∙ ap (λ (y : ℕ). y * 2 ^ z) (pow-suc 2 d)) ∙ simp mul_assoc in
    test_bit-mod (x * 2 ^ k) w z hw ∙ ap (λ (y : ℕ). odd (y / 2 ^ z)) p ∙ ap odd (shl-shr (x * 2 ^ d * 2) z) ∙ even-double (x * 2 ^ d)

-- and moves the bits up by k places
pub test_bit-shl-from : (w x k z : ℕ) → z < w → k ≤ z → test_bit (x * 2 ^ k % 2 ^ w) z ≡ test_bit x (z - k)
unfolding test_bit
test_bit-shl-from w x k z hw hk =
    let d = z - k in
    let e : z ≡ k + d = omega arith in
    test_bit-mod (x * 2 ^ k) w z hw ∙ ap (λ (y : ℕ). odd (x * 2 ^ k / 2 ^ y)) e
    ∙ ap odd (sym (shr-shr (x * 2 ^ k) k d) ∙ ap (λ (y : ℕ). y / 2 ^ d) (shl-shr x k))

-- OR with false changes nothing
or-false : (b : Bool) → b || false ≡ b
or-false true = refl
or-false false = refl

-- a rotation to the left by k places
pub test_bit-rotl : (w x k z : ℕ) → 0 < k → k < w → x < 2 ^ w → z < w
    → test_bit (bit_or (x * 2 ^ k % 2 ^ w) (x / 2 ^ (w - k))) z ≡ test_bit x ((z + (w - k)) % w)
test_bit-rotl w x k z h0 hk hx hz =
    test_bit-or (x * 2 ^ k % 2 ^ w) (x / 2 ^ (w - k)) z ∙ ⊎_elim below from (lt-or-le z k)
  where
    Rotated : Type 0
    Rotated = test_bit (x * 2 ^ k % 2 ^ w) z || test_bit (x / 2 ^ (w - k)) z ≡ test_bit x ((z + (w - k)) % w)

    below : z < k → Rotated
    below lt =
        let e : (z + (w - k)) % w ≡ w - k + z = mod-eq_of_lt (omega arith) ∙ omega arith in
        ap₂ ◌||◌ (test_bit-shl-below w x k z hz lt) (test_bit-shr x (w - k) z) ∙ ap (test_bit x) (sym e)

    from : k ≤ z → Rotated
    from ge =
        let e : z + (w - k) ≡ z - k + w = omega arith in
        let f : (z + (w - k)) % w ≡ z - k = ap (λ (y : ℕ). y % w) e ∙ add-mod_right (z - k) w ∙ mod-eq_of_lt (omega arith) in
        ap₂ ◌||◌ (test_bit-shl-from w x k z hz ge) (test_bit-shr x (w - k) z ∙ test_bit-high w x (w - k + z) hx (omega arith))
        ∙ or-false (test_bit x (z - k)) ∙ ap (test_bit x) (sym f)

-- 2 p less one, less a smaller number, is odd where that number is even
odd-less : (p q : ℕ) → q < p * 2 → odd ((p * 2 - 1) - q) ≡ not (odd q)
unfolding odd
odd-less p q h = ⊎_elim (λ (lt : q % 2 < 1). even-case (omega arith)) (λ (ge : 1 ≤ q % 2). odd-case (omega arith)) (lt-or-le (q % 2) 1)
  where
    even-case : q % 2 ≡ 0 → eqb (((p * 2 - 1) - q) % 2) 1 ≡ not (eqb (q % 2) 1)
    even-case e = let f : ((p * 2 - 1) - q) % 2 ≡ 1 = omega arith in rw (e, f)

    odd-case : q % 2 ≡ 1 → eqb (((p * 2 - 1) - q) % 2) 1 ≡ not (eqb (q % 2) 1)
    odd-case e = let f : ((p * 2 - 1) - q) % 2 ≡ 0 = omega arith in rw (e, f)

-- the complement of a number of j + z bits, from place z on, is that of its bits from place z on
not-shr : (j z x : ℕ) → x < 2 ^ (j + z) → ((2 ^ (j + z) - 1) - x) / 2 ^ z ≡ (2 ^ j - 1) - x / 2 ^ z
not-shr j z x h =
    let q = x / 2 ^ z in
    let r = x % 2 ^ z in
    let e = (2 ^ j - 1) - q in
    let hq : q ≤ 2 ^ j - 1 = le_ones j (shr_lt j z h) in
    let a : (2 ^ j - 1) * 2 ^ z ≡ (q + e) * 2 ^ z = ap (λ (y : ℕ). y * 2 ^ z) (omega arith) in
    let hr : r < 2 ^ z = mod-lt x (pow_pos z) in
    let s : (2 ^ (j + z) - 1) - x ≡ e * 2 ^ z + ((2 ^ z - 1) - r) = omega (arith, ones_split j z, split x z) in
    ap (λ (y : ℕ). y / 2 ^ z) s ∙ high e z (ones_sub-lt z r)

-- a bit of a complement
pub test_bit-not : (w x z : ℕ) → x < 2 ^ w → z < w → test_bit ((2 ^ w - 1) - x) z ≡ not (test_bit x z)
unfolding test_bit
test_bit-not w x z hx hz =
    let d = w - suc z in
    let e : w ≡ suc d + z = omega arith in
    let hx' : x < 2 ^ (suc d + z) = rw e at hx in
    let hq : x / 2 ^ z < 2 ^ d * 2 = rw (pow-suc 2 d) at (shr_lt (suc d) z hx') in
    ap (λ (y : ℕ). odd (((2 ^ y - 1) - x) / 2 ^ z)) e ∙ ap odd (not-shr (suc d) z x hx')
    ∙ ap (λ (y : ℕ). odd ((y - 1) - x / 2 ^ z)) (pow-suc 2 d) ∙ odd-less (2 ^ d) (x / 2 ^ z) hq

-- every number is below its own power of two
below-pow : (n : ℕ) → n < 2 ^ n
below-pow zero = omega arith
below-pow (suc n) = omega (arith, below-pow n, pow-suc 2 n)

-- XOR of numbers is associative
pub bit_xor-assoc : (a b c : ℕ) → bit_xor (bit_xor a b) c ≡ bit_xor a (bit_xor b c)
bit_xor-assoc a b c =
    let w : ℕ = a + (b + c) in
    let big : (x : ℕ) → x ≤ w → x < 2 ^ w = λ x h. lt_of_lt_of_le (below-pow x) (pow_mono h) in
    let ha = big a (omega arith) in
    let hb = big b (omega arith) in
    let hc = big c (omega arith) in
    ext-bits w (bit_xor (bit_xor a b) c) (bit_xor a (bit_xor b c)) (xor_lt w _ _ (xor_lt w a b ha hb) hc) (xor_lt w _ _ ha (xor_lt w b c hb hc))
    (λ z h. rw (test_bit-xor (bit_xor a b) c z, test_bit-xor a b z, test_bit-xor a (bit_xor b c) z, test_bit-xor b c z) (xor_assoc (test_bit a z) (test_bit b z) (test_bit c z)))

-- XOR of shifted numbers
pub shifted-xor : (a b k : ℕ) → bit_xor (a * 2 ^ k) (b * 2 ^ k) ≡ bit_xor a b * 2 ^ k
shifted-xor a b k =
    let z : (x : ℕ) → x * 2 ^ k + 0 ≡ x * 2 ^ k = λ x. omega arith in
    ap₂ bit_xor (sym (z a)) (sym (z b)) ∙ xor_block k a b 0 0 (pow_pos k) (pow_pos k) ∙ z (bit_xor a b)
