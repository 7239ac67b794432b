-- A number is its bits: laws of `odd`, `test_bit` and `from_bits`, for every width.
-- Assumes nothing.
use mathlib.Core.Path.{◌≡◌, refl, sym, ap, ap₂, ◌∙◌}
use mathlib.Core.Bool.{Bool, true, false}
use mathlib.Core.Logic.{◌≢◌, ◌⊎◌, inl, inr, ⊎_elim}
use Prim.Native.Nat.{ℕ, zero, suc, ◌+◌, ◌-◌, ◌*◌, ◌/◌, ◌%◌, ◌^◌, ◌≤◌, ◌<◌}
use native.Mathlib.Nat.{add_comm, add-zero, div-eq_of_lt, eq-or-lt_of_le, le_of_suc-le-suc, lt_of_lt_of_le, mod-eq_of_lt, mul-add-div_right, mul_assoc, pow-suc, zero-div}
use native.Mathlib.Decide.{dec_lt, ℕ_discrete}
use native.Mathlib.Numerals.{one-add}
use native.Mathlib.Omega.{arith}
use lib.Dec.{eqb}
use lib.Pow.{high, mod-pow-add, pow-add, pow_mono, pow_pos, shr-shr, split}
use Rattle.bits.specs.Bits.{bit_val, odd, test_bit, from_bits}

-- a bit as a number is 0 or 1
pub bit_val-lt : (b : Bool) → bit_val b < 2
bit_val-lt true = omega arith
bit_val-lt false = omega arith

-- the lowest bit of a bit as a number is that bit
pub odd-bit_val : (b : Bool) → odd (bit_val b) ≡ b
unfolding odd
odd-bit_val true = refl
odd-bit_val false = refl

-- a number below 2 is a bit as a number
pub bit-eq : (x : ℕ) → x < 2 → x ≡ bit_val (eqb x 1)
bit-eq zero h = refl
bit-eq (suc zero) h = refl
bit-eq (suc (suc x)) h = absurd (omega arith)

-- the remainder by 2 is the lowest bit
pub mod-two : (x : ℕ) → x % 2 ≡ bit_val (odd x)
unfolding odd
mod-two x = bit-eq (x % 2) (omega arith)

-- the remainder by 2 after a shift is the bit at that place
pub bit-at : (x z : ℕ) → x / 2 ^ z % 2 ≡ bit_val (test_bit x z)
unfolding test_bit
bit-at x z = mod-two (x / 2 ^ z)

-- a bit is known by its number
pub bit_val-injective : (a b : Bool) → bit_val a ≡ bit_val b → a ≡ b
bit_val-injective a b e = sym (odd-bit_val a) ∙ ap odd e ∙ odd-bit_val b

-- 0 has no bit
pub test_bit-zero : (z : ℕ) → test_bit 0 z ≡ false
unfolding test_bit odd
test_bit-zero z = rw zero-div

-- a number of w bits has none from place w on
pub test_bit-high : (w x z : ℕ) → x < 2 ^ w → w ≤ z → test_bit x z ≡ false
unfolding test_bit odd
test_bit-high w x z h l = rw (div-eq_of_lt (lt_of_lt_of_le h (pow_mono l)))

-- of two numbers the first is less, or the second is at most the first
pub lt-or-le : (a b : ℕ) → (a < b) ⊎ (b ≤ a)
lt-or-le a b = elim (dec_lt a b) [ yes h ↦ inl h | no h ↦ inr (omega arith) ]

-- two numbers are equal or not
pub eq-or-ne : (a b : ℕ) → (a ≡ b) ⊎ (a ≢ b)
eq-or-ne a b = elim (ℕ_discrete a b) [ yes h ↦ inl h | no h ↦ inr h ]

-- a low bit of a number in two parts is that of the low part
pub test_bit-low : (hi w lo z : ℕ) → z < w → test_bit (hi * 2 ^ w + lo) z ≡ test_bit lo z
unfolding test_bit odd
test_bit-low hi w lo z l =
    let d = w - suc z in
    let y = hi * 2 ^ d in
    let q : w ≡ suc d + z = omega arith in
    let two : hi * 2 ^ w ≡ y * 2 * 2 ^ z =
    ap (λ (k : ℕ). hi * 2 ^ k) q ∙ ap (λ (k : ℕ). hi * k) (pow-add 2 (suc d) z ∙ ap (λ (k : ℕ). k * 2 ^ z) (pow-suc 2 d)) ∙ simp mul_assoc in
    let r : (y * 2 + lo / 2 ^ z) % 2 ≡ lo / 2 ^ z % 2 = omega arith in
    ap (λ (k : ℕ). eqb (k % 2) 1) (ap (λ (k : ℕ). (k + lo) / 2 ^ z) two ∙ mul-add-div_right (pow_pos z) (y * 2) lo) ∙ ap (λ (k : ℕ). eqb k 1) r

-- a high bit of a number in two parts is that of the high part
pub test_bit-block : (hi w lo z : ℕ) → lo < 2 ^ w → test_bit (hi * 2 ^ w + lo) (w + z) ≡ test_bit hi z
unfolding test_bit
test_bit-block hi w lo z h = ap odd (sym (shr-shr (hi * 2 ^ w + lo) w z) ∙ ap (λ (k : ℕ). k / 2 ^ z) (high hi w h))

-- a bit after a shift to the right
pub test_bit-shr : (x w z : ℕ) → test_bit (x / 2 ^ w) z ≡ test_bit x (w + z)
unfolding test_bit
test_bit-shr x w z = ap odd (shr-shr x w z)

-- the bits of a remainder by 2 ^ w
pub test_bit-mod : (x w z : ℕ) → z < w → test_bit (x % 2 ^ w) z ≡ test_bit x z
test_bit-mod x w z l = sym (test_bit-low (x / 2 ^ w) w (x % 2 ^ w) z l) ∙ ap (λ (k : ℕ). test_bit k z) (split x w)

-- a bit times a number is at most the number
bit_le : (b : Bool) (x : ℕ) → bit_val b * x ≤ x
bit_le true x = omega arith
bit_le false x = omega arith

-- w bits make a number below 2 ^ w
pub from_bits-lt : (w : ℕ) (f : ℕ → Bool) → from_bits w f < 2 ^ w
unfolding from_bits
from_bits-lt zero f = omega arith
from_bits-lt (suc w) f = omega (arith, from_bits-lt w f, bit_le (f w) (2 ^ w), pow-suc 2 w)

-- bit 0 of a bit as a number
pub test_bit-bit_val : (b : Bool) → test_bit (bit_val b) 0 ≡ b
unfolding test_bit odd
test_bit-bit_val true = refl
test_bit-bit_val false = refl

-- bit z of the number made of bits is bit z
pub test_bit-from_bits : (w : ℕ) (f : ℕ → Bool) (z : ℕ) → z < w → test_bit (from_bits w f) z ≡ f z
unfolding from_bits
test_bit-from_bits zero f z l = absurd (omega arith)
test_bit-from_bits (suc w) f z l =
    let x = bit_val (f w) in
    let y = from_bits w f in
    ap (λ (k : ℕ). test_bit k z) (add_comm y (x * 2 ^ w))
    ∙ ⊎_elim
    (λ q. rw q (ap (λ (k : ℕ). test_bit (x * 2 ^ w + y) k) (sym (add-zero w)) ∙ test_bit-block x w y 0 (from_bits-lt w f) ∙ test_bit-bit_val (f w)))
    (λ lt. test_bit-low x w y z lt ∙ test_bit-from_bits w f z lt)
    (eq-or-lt_of_le (le_of_suc-le-suc l))

-- the number made of a number's first w bits is its remainder by 2 ^ w
pub from_bits-mod : (w x : ℕ) → from_bits w (test_bit x) ≡ x % 2 ^ w
unfolding from_bits
from_bits-mod zero x = omega arith
from_bits-mod (suc w) x =
    let e : x % 2 ^ suc w ≡ (x / 2 ^ w % 2) * 2 ^ w + x % 2 ^ w = ap (λ (k : ℕ). x % 2 ^ k) (sym (one-add w)) ∙ mod-pow-add x 1 w in
    omega (arith, e, from_bits-mod w x, ap (λ (y : ℕ). y * 2 ^ w) (bit-at x w))

-- a number below 2 ^ w is made of its w bits
pub from_bits-test_bit : (w x : ℕ) → x < 2 ^ w → from_bits w (test_bit x) ≡ x
from_bits-test_bit w x h = from_bits-mod w x ∙ mod-eq_of_lt h

-- numbers made of equal bits are equal
pub from_bits-cong : (w : ℕ) (f g : ℕ → Bool) → ((z : ℕ) → z < w → f z ≡ g z) → from_bits w f ≡ from_bits w g
unfolding from_bits
from_bits-cong zero f g h = refl
from_bits-cong (suc w) f g h =
    ap₂ (λ (x : ℕ) (b : Bool). x + bit_val b * 2 ^ w) (from_bits-cong w f g (λ z l. h z (omega arith))) (h w (omega arith))

-- numbers of w bits with equal bits are equal
pub ext-bits : (w x y : ℕ) → x < 2 ^ w → y < 2 ^ w → ((z : ℕ) → z < w → test_bit x z ≡ test_bit y z) → x ≡ y
ext-bits w x y hx hy h =
    sym (from_bits-test_bit w x hx) ∙ from_bits-cong w (test_bit x) (test_bit y) h ∙ from_bits-test_bit w y hy
